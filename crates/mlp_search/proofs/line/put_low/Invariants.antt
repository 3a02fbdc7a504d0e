use Rattle.std.proofs.Common.{◌≡◌, ◌<◌, ℕ, pos, get_or}
use Rattle.mlp_search.specs.Lines.{low_part}
use Rattle.mlp_search.proofs.line.put_low.Given as goal

abbrev pub invariant-loop-i : goal.invariant-loop-i
invariant-loop-i l = (k : ℕ) → k < l.i → get_or l.low k (pos 0) ≡ low_part (get_or l.whole k (pos 0))
