use Rattle.std.proofs.Common.{◌≡◌, ◌++◌, take, drop, All, FitsSigned, w32}
use Rattle.mlp_predict.specs.Prediction.{residuals_of, past_of, latest}
use Rattle.mlp_predict.proofs.predictor.Predictor.reduce_by.Given as goal

abbrev pub invariant-loop-i : goal.invariant-loop-i
invariant-loop-i g l = record {
  values : take l.i l.residuals ++ residuals_of (record { fir = l.fir; iir = l.iir; shift = l.shift }) l.self l.step (drop l.i l.samples)
      ≡ residuals_of (record { fir = l.fir; iir = l.iir; shift = l.shift }) l.initial.self l.step l.samples;
  fit : All (FitsSigned w32) (take l.i l.residuals);
  past : l.self ≡ latest g.row.F g.row.I (past_of (record { fir = l.fir; iir = l.iir; shift = l.shift }) l.initial.self (take l.i l.samples));
}
