use Rattle.std.proofs.Common.{◌≡◌, ◌<◌, ℕ, pos, get_or}
use Rattle.mlp_arith.specs.Words.{floor_by}
use Rattle.mlp_search.proofs.line.put_high.Given as goal

abbrev pub invariant-loop-i : goal.invariant-loop-i
invariant-loop-i l = (k : ℕ) → k < l.i → get_or l.high k (pos 0) ≡ floor_by 13 (get_or l.whole k (pos 0))
