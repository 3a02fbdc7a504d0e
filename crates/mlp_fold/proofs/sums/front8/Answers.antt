use Rattle.std.proofs.Common.{w32, w64}
use Rattle.std.proofs.lemmas.Int.{to_z-of_z}
use Rattle.mlp_fold.proofs.sums.front8.Goals as goal

pub returns : goal.returns
returns c =
    cc (
      to_z-of_z w32 c.args.value c.ranges.value,
      to_z-of_z w32 c.args.centre c.ranges.centre,
      to_z-of_z w32 c.args.sum c.ranges.sum,
      to_z-of_z w64 c.part8.result (record { sfits = c.part8.type_inv }),
      c.part8.ensures.value,
      c.lowered.ensures,
      to_z-of_z w32 c.lowered.result (record { sfits = c.lowered.type_inv }),
    )
