use Rattle.std.proofs.Common.{ℕ, ◌+◌, get_or, pos, w32, arith}
use Rattle.std.proofs.lemmas.Int.{to_z-of_z}
use Rattle.mlp_fold.proofs.Samples.{sample_fits, word26}
use Rattle.mlp_fold.proofs.Bounds.{front8-26}
use Rattle.mlp_fold.proofs.Showing.{stereo8_at}
use Rattle.mlp_fold.proofs.checking.stereo8.Goals as goal

pub stereo-requires-clause-coded : goal.stereo-requires-clause-coded
stereo-requires-clause-coded c =
    let q = c.args.q in
    let x = c.args.frame.now in
    let i : ℕ = c.from-c.result in
    let e = c.from-c.ensures in
    let value = c.requires.samples i (omega (arith, e, c.requires.channel)) in
    let centre = c.requires.samples 2 (omega arith) in
    let surround = c.requires.samples (i + 4) (omega (arith, e, c.requires.channel)) in
    let back = c.requires.samples (i + 6) (omega (arith, e, c.requires.channel)) in
    word26 c.front8.result
    (rw (
      c.front8.ensures,
      to_z-of_z w32 c.both-side.result (record { sfits = c.both-side.type_inv }),
      c.both-side.ensures.value,
      to_z-of_z w32 (get_or x i (pos 0)) (sample_fits q (get_or x i (pos 0)) value),
      to_z-of_z w32 (get_or x 2 (pos 0)) (sample_fits q (get_or x 2 (pos 0)) centre),
      to_z-of_z w32 (get_or x (i + 4) (pos 0)) (sample_fits q (get_or x (i + 4) (pos 0)) surround),
      to_z-of_z w32 (get_or x (i + 6) (pos 0)) (sample_fits q (get_or x (i + 6) (pos 0)) back),
    ) (front8-26 q (get_or x i (pos 0)) (get_or x 2 (pos 0)) (get_or x (i + 4) (pos 0)) (get_or x (i + 6) (pos 0)) c.requires.q value centre surround back))

pub returns : goal.returns
returns c =
    let q = c.args.q in
    let x = c.args.frame.now in
    let i : ℕ = c.from-c.result in
    let e = c.from-c.ensures in
    cc (
      e,
      to_z-of_z w32 (get_or x i (pos 0)) (sample_fits q (get_or x i (pos 0)) (c.requires.samples i (omega (arith, e, c.requires.channel)))),
      to_z-of_z w32 (get_or x 2 (pos 0)) (sample_fits q (get_or x 2 (pos 0)) (c.requires.samples 2 (omega arith))),
      to_z-of_z w32 (get_or x (i + 4) (pos 0)) (sample_fits q (get_or x (i + 4) (pos 0)) (c.requires.samples (i + 4) (omega (arith, e, c.requires.channel)))),
      to_z-of_z w32 (get_or x (i + 6) (pos 0)) (sample_fits q (get_or x (i + 6) (pos 0)) (c.requires.samples (i + 6) (omega (arith, e, c.requires.channel)))),
      to_z-of_z w32 c.both-side.result (record { sfits = c.both-side.type_inv }),
      c.both-side.ensures.value,
      to_z-of_z w32 c.front8.result (record { sfits = c.front8.type_inv }),
      c.front8.ensures,
      to_z-of_z w32 c.stereo.result (record { sfits = c.stereo.type_inv }),
      c.stereo.ensures,
      stereo8_at q i x (omega (arith, e, c.requires.channel)),
    )
