use Rattle.std.proofs.Common.{◌-◌, length, w64, ◌∙◌}
use Rattle.std.proofs.lemmas.Int.{to_z-of_z}
use Rattle.mlp_predict.proofs.Blocks.{prepared}
use Rattle.mlp_predict.proofs.predictor.Predictor.predict.Goals as goal

pub returns-clause-value : goal.returns-clause-value
returns-clause-value g c =
    to_z-of_z w64 c.predicted.result (record { sfits = c.predicted.type_inv }) ∙ c.predicted.ensures.value
    ∙ prepared c.args.fir.now c.args.iir.now c.taps-fir_taps.result c.taps-iir_taps.result c.as_slice.result.now c.as_slice-2.result.now
    (g.row.F - length c.as_slice.result.now) (g.row.I - length c.as_slice-2.result.now) c.shift_of.result
    c.as_slice.ensures.value c.as_slice-2.ensures.value c.taps-fir_taps.ensures.value c.taps-iir_taps.ensures.value c.shift_of.ensures c.args.self.now
