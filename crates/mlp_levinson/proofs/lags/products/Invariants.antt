use Rattle.std.proofs.Common.{◌≡◌, ◌+◌, ◌*◌, take, drop, pos, neg_ℤ, ◌≤ℤ◌}
use Rattle.mlp_predict.specs.Prediction.{dot}
use Rattle.mlp_levinson.proofs.lags.products.Given as goal

abbrev pub invariant-loop-i : goal.invariant-loop-i
invariant-loop-i l = record {
  first : l.first ≡ dot (take l.i l.ys) (drop l.distance l.line);
  second : l.second ≡ dot (take l.i l.ys) (drop (l.distance + 1) l.line);
  third : l.third ≡ dot (take l.i l.ys) (drop (l.distance + 2) l.line);
  first_low : neg_ℤ (pos (1125899906842624 * l.i)) ≤ℤ l.first;
  first_high : l.first ≤ℤ pos (1125899906842624 * l.i);
  second_low : neg_ℤ (pos (1125899906842624 * l.i)) ≤ℤ l.second;
  second_high : l.second ≤ℤ pos (1125899906842624 * l.i);
  third_low : neg_ℤ (pos (1125899906842624 * l.i)) ≤ℤ l.third;
  third_high : l.third ≤ℤ pos (1125899906842624 * l.i);
}
