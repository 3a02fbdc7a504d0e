use Rattle.std.proofs.Common.{ℕ, ◌+◌, get_or, pos, w32, arith}
use Rattle.std.proofs.lemmas.Int.{to_z-of_z}
use Rattle.mlp_fold.proofs.Samples.{sample_fits}
use Rattle.mlp_fold.proofs.Showing.{side_at}
use Rattle.mlp_fold.proofs.checking.side_of_eight.Goals as goal

pub returns : goal.returns
returns c =
    let q = c.args.q in
    let x = c.args.frame.now in
    let i : ℕ = c.from-c.result in
    let e = c.from-c.ensures in
    cc (
      e,
      to_z-of_z w32 (get_or x i (pos 0)) (sample_fits q (get_or x i (pos 0)) (c.requires.samples i (omega (arith, e, c.requires.last)))),
      to_z-of_z w32 (get_or x (i + 2) (pos 0)) (sample_fits q (get_or x (i + 2) (pos 0)) (c.requires.samples (i + 2) (omega (arith, e, c.requires.last)))),
      to_z-of_z w32 c.both.result (record { sfits = c.both.type_inv }),
      c.both.ensures.value,
      to_z-of_z w32 c.halved.result (record { sfits = c.halved.type_inv }),
      c.halved.ensures,
      side_at q i x (omega (arith, e, c.requires.first)) (omega (arith, e, c.requires.last)),
    )
