use Rattle.std.proofs.Common.{◌≡◌, ◌*◌, take, pos, neg_ℤ, ◌≤ℤ◌}
use Rattle.mlp_predict.specs.Prediction.{dot}
use Rattle.mlp_predict.proofs.sample.dot.Given as goal

abbrev pub invariant-loop-i : goal.invariant-loop-i
invariant-loop-i l = record {
  sum : l.sum ≡ dot (take l.i l.coeffs) l.values;
  low : neg_ℤ (pos (70368744177664 * l.i)) ≤ℤ l.sum;
  high : l.sum ≤ℤ pos (70368744177664 * l.i);
}
