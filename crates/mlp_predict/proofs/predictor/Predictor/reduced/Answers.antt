use Rattle.std.proofs.Common.{ℤ, ◌-ℤ◌, w32, w64}
use Rattle.std.proofs.lemmas.Int.{to_z-of_z}
use Rattle.mlp_arith.specs.Words.{wrap}
use Rattle.mlp_predict.specs.Prediction.{Filters, predicted}
use Rattle.mlp_predict.proofs.Blocks.{take_pushed}
use Rattle.mlp_predict.proofs.predictor.Predictor.reduced.Goals as goal

pub returns-clause-past : goal.returns-clause-past
returns-clause-past g c =
    let f : Filters = record { fir = c.args.fir.now; iir = c.args.iir.now; shift = c.args.shift } in
    let x : ℤ = c.args.sample in
    let d : ℤ = wrap (x -ℤ predicted f c.args.self.now) in
    cc (
      to_z-of_z w32 x c.ranges.sample,
      to_z-of_z w32 c.difference_of.result (record { sfits = c.difference_of.type_inv }),
      c.difference_of.ensures,
      to_z-of_z w64 c.predicted-prediction.result
          (record { sfits = c.predicted-prediction.type_inv }),
      c.predicted-prediction.ensures.value,
      c.take.ensures,
      take_pushed g.row.F x c.args.self.now.outputs c.requires.any_output,
      take_pushed g.row.I d c.args.self.now.differences c.requires.any_difference,
    )
