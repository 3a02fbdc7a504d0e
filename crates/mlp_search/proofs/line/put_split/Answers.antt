use Rattle.std.proofs.Common.{arith}
use Rattle.mlp_predict.specs.Prediction.{IsCoefficient}
use Rattle.mlp_search.proofs.LineFits.{all_turned}
use Rattle.mlp_search.proofs.line.put_split.Goals as goal

pub reduce_split-requires : goal.reduce_split-requires
reduce_split-requires g c = (
  omega arith,
  (
    c.requires.few,
    (
      all_turned IsCoefficient c.taps_of-taps.result c.args.coeffs.now c.taps_of-taps.ensures c.requires.small_coeffs,
      (c.requires.least_shift, (c.requires.most_shift, (c.requires.small, (c.requires.high_parts, (c.requires.low_parts, c.requires.room))))),
    ),
  ),
)
