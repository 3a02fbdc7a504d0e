use Rattle.std.proofs.Common.{◌≡◌, ℕ, ◌<◌, ◌≤◌, pos, get_or}
use Rattle.mlp_search.specs.Folded.{stepped}
use Rattle.mlp_search.proofs.reduction.count_steps.Given as goal

abbrev pub invariant-loop-residual : goal.invariant-loop-residual
invariant-loop-residual l = record {
  counted : (k : ℕ) → k < l.residual-index → stepped l.step (get_or l.residuals k (pos 0)) ≡ get_or l.fn.residuals k (pos 0);
  left : (k : ℕ) → l.residual-index ≤ k → get_or l.residuals k (pos 0) ≡ get_or l.fn.residuals k (pos 0);
}
