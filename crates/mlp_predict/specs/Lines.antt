-- Lines of values, the oldest first.
use Rattle.std.specs.Prelude.{ℕ, List, [], ◌++◌, take, drop, reverse, ℤ}
use Rattle.mlp_predict.specs.Prediction.{Filters, Past, outputs_of}

-- the past of which these are the outputs and the differences
abbrev pub past_in : List ℤ → List ℤ → Past
past_in outputs differences = record { outputs = reverse outputs; differences = reverse differences }

-- the filters of which these are the coefficients, the first for the oldest value
abbrev pub filters_in : List ℤ → List ℤ → ℕ → Filters
filters_in fir iir shift = record { fir = reverse fir; iir = reverse iir; shift = shift }

-- a line of which the first k values are outputs, once the residuals behind them are restored by outputs alone
abbrev pub finished : Filters → ℕ → ℕ → List ℤ → List ℤ
finished f step k line = take k line ++ outputs_of f (past_in (take k line) []) step (drop k line)
