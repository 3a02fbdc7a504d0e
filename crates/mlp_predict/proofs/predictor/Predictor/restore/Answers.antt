use Rattle.std.proofs.Common.{◌≡◌, ◌-◌, ◌∷◌, length, ℤ, ◌+ℤ◌, ◌-ℤ◌, w32, ap, ◌∙◌}
use Rattle.std.proofs.lemmas.Int.{to_z-of_z}
use Rattle.mlp_arith.specs.Words.{clear, wrap}
use Rattle.mlp_predict.specs.Prediction.{Filters, predicted, restored, latest}
use Rattle.mlp_predict.specs.Filters.{filters_of}
use Rattle.mlp_predict.proofs.Blocks.{prepared}
use Rattle.mlp_predict.proofs.predictor.Predictor.restore.Goals as goal

pub returns-clause-value : goal.returns-clause-value
returns-clause-value g c =
    let f : Filters = record { fir = c.taps-fir_taps.result; iir = c.taps-iir_taps.result; shift = c.shift_of.result } in
    let same : predicted f c.args.self.now ≡ predicted (filters_of c.args.fir.now c.args.iir.now) c.args.self.now =
    prepared c.args.fir.now c.args.iir.now c.taps-fir_taps.result c.taps-iir_taps.result c.as_slice.result.now c.as_slice-2.result.now
    (g.row.F - length c.as_slice.result.now) (g.row.I - length c.as_slice-2.result.now) c.shift_of.result
    c.as_slice.ensures.value c.as_slice-2.ensures.value c.taps-fir_taps.ensures.value c.taps-iir_taps.ensures.value c.shift_of.ensures c.args.self.now in
    to_z-of_z w32 c.restored.result (record { sfits = c.restored.type_inv }) ∙ c.restored.ensures.value
    ∙ ap (restored f c.args.self.now c.args.step) (to_z-of_z w32 c.args.residual c.ranges.residual)
    ∙ ap (λ p. wrap (clear c.args.step (p +ℤ c.args.residual))) same

pub returns-clause-past : goal.returns-clause-past
returns-clause-past g c =
    let f : Filters = record { fir = c.taps-fir_taps.result; iir = c.taps-iir_taps.result; shift = c.shift_of.result } in
    let same : predicted f c.args.self.now ≡ predicted (filters_of c.args.fir.now c.args.iir.now) c.args.self.now =
    prepared c.args.fir.now c.args.iir.now c.taps-fir_taps.result c.taps-iir_taps.result c.as_slice.result.now c.as_slice-2.result.now
    (g.row.F - length c.as_slice.result.now) (g.row.I - length c.as_slice-2.result.now) c.shift_of.result
    c.as_slice.ensures.value c.as_slice-2.ensures.value c.taps-fir_taps.ensures.value c.taps-iir_taps.ensures.value c.shift_of.ensures c.args.self.now in
    let x : ℤ = c.restored.result in
    rw (to_z-of_z w32 c.restored.result (record { sfits = c.restored.type_inv }))
    (c.restored.ensures.past
    ∙ ap (λ p. latest g.row.F g.row.I (record { outputs = x ∷ c.args.self.now.outputs; differences = wrap (x -ℤ p) ∷ c.args.self.now.differences })) same)
