use Rattle.std.proofs.Common.{◌≡◌, ◌-ℤ◌, ◌+◌, ◌<◌, ℕ, pos, get_or, take, reverse}
use Rattle.mlp_arith.specs.Words.{floor_by}
use Rattle.mlp_predict.specs.Prediction.{dot}
use Rattle.mlp_search.proofs.line.reduce_short.Given as goal

abbrev pub invariant-loop-i : goal.invariant-loop-i
invariant-loop-i g l = (k : ℕ) → k < l.i → get_or l.values k (pos 0) ≡ get_or l.whole (8 + k) (pos 0) -ℤ floor_by l.shift (dot (reverse l.fir) (reverse (take (8 + k) l.whole)))
