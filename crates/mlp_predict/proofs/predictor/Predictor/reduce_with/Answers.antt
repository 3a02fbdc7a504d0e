use Rattle.std.proofs.Common.{◌-◌, ◌↔◌, length, List, ℤ, ap, ◌∙◌, subst, IsTrue, All, FitsSigned, w32}
use Rattle.mlp_predict.specs.Prediction.{Filters, latest}
use Rattle.mlp_predict.specs.Filters.{filters_of}
use Rattle.mlp_predict.proofs.Blocks.{prepared, residuals_of-same, past_of-same}
use Rattle.mlp_predict.proofs.predictor.Predictor.reduce_with.Goals as goal

pub returns-clause-fit : goal.returns-clause-fit
returns-clause-fit g c =
    let f : Filters = record { fir = c.taps-fir_taps.result; iir = c.taps-iir_taps.result; shift = c.shift_of.result } in
    let P : List ℤ → Type 0 = λ rs. IsTrue c.reduce_by.result ↔ All (FitsSigned w32) rs in
    subst P (residuals_of-same f (filters_of c.args.fir.now c.args.iir.now) c.args.self.now c.args.step c.args.samples.now
    (prepared c.args.fir.now c.args.iir.now c.taps-fir_taps.result c.taps-iir_taps.result c.as_slice.result.now c.as_slice-2.result.now
    (g.row.M - length c.as_slice.result.now) (g.row.K - length c.as_slice-2.result.now) c.shift_of.result
    c.as_slice.ensures.value c.as_slice-2.ensures.value c.taps-fir_taps.ensures.value c.taps-iir_taps.ensures.value c.shift_of.ensures))
    c.reduce_by.ensures.fit

pub returns-clause-values : goal.returns-clause-values
returns-clause-values g c = λ h.
    let f : Filters = record { fir = c.taps-fir_taps.result; iir = c.taps-iir_taps.result; shift = c.shift_of.result } in
    c.reduce_by.ensures.values h
    ∙ residuals_of-same f (filters_of c.args.fir.now c.args.iir.now) c.args.self.now c.args.step c.args.samples.now
    (prepared c.args.fir.now c.args.iir.now c.taps-fir_taps.result c.taps-iir_taps.result c.as_slice.result.now c.as_slice-2.result.now
    (g.row.M - length c.as_slice.result.now) (g.row.K - length c.as_slice-2.result.now) c.shift_of.result
    c.as_slice.ensures.value c.as_slice-2.ensures.value c.taps-fir_taps.ensures.value c.taps-iir_taps.ensures.value c.shift_of.ensures)

pub returns-clause-past : goal.returns-clause-past
returns-clause-past g c = λ h.
    let f : Filters = record { fir = c.taps-fir_taps.result; iir = c.taps-iir_taps.result; shift = c.shift_of.result } in
    c.reduce_by.ensures.past h
    ∙ ap (latest g.row.F g.row.I)
    (past_of-same f (filters_of c.args.fir.now c.args.iir.now) c.args.self.now c.args.samples.now
    (prepared c.args.fir.now c.args.iir.now c.taps-fir_taps.result c.taps-iir_taps.result c.as_slice.result.now c.as_slice-2.result.now
    (g.row.M - length c.as_slice.result.now) (g.row.K - length c.as_slice-2.result.now) c.shift_of.result
    c.as_slice.ensures.value c.as_slice-2.ensures.value c.taps-fir_taps.ensures.value c.taps-iir_taps.ensures.value c.shift_of.ensures))
