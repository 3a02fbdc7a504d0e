use Rattle.std.proofs.Common.{◌≡◌, ◌*◌, take, length, pos, neg_ℤ, ◌≤ℤ◌}
use Rattle.mlp_predict.specs.Prediction.{dot}
use Rattle.mlp_levinson.specs.Computed.{lags_down}
use Rattle.mlp_levinson.proofs.recursion.predicted.Given as goal

abbrev pub invariant-loop-j : goal.invariant-loop-j
invariant-loop-j l = record {
  sum : l.sum ≡ dot (take l.j l.coefficients) (lags_down l.lags (length l.coefficients));
  low : neg_ℤ (pos (77371252455336267181195264 * l.j)) ≤ℤ l.sum;
  high : l.sum ≤ℤ pos (77371252455336267181195264 * l.j);
}
