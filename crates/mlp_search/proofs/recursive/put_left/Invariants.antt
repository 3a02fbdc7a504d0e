use Rattle.std.proofs.Common.{◌≡◌, ◌<◌, ◌≤◌, ℕ, pos, neg_ℤ, get_or}
use Rattle.mlp_arith.specs.Words.{floor_by}
use Rattle.mlp_search.proofs.recursive.put_left.Given as goal

abbrev pub invariant-loop-i : goal.invariant-loop-i
invariant-loop-i l = record {
  done : (k : ℕ) → k < l.i → get_or l.values k (pos 0) ≡ neg_ℤ (floor_by l.step (get_or l.fn.values k (pos 0)));
  ahead : (k : ℕ) → l.i ≤ k → get_or l.values k (pos 0) ≡ get_or l.fn.values k (pos 0);
}
