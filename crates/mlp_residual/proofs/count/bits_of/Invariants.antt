use Rattle.std.proofs.Common.{◌≤◌, ◌*◌, drop}
use Rattle.mlp_residual.proofs.Counting.{Counted}
use Rattle.mlp_residual.proofs.count.bits_of.Given as goal

abbrev pub invariant-loop-residual : goal.invariant-loop-residual
invariant-loop-residual l = record {
  counted : Counted l.fn.book l.fn.b l.fn.offset l.fn.step l.residuals (drop l.residual-index l.residuals) l.bits;
  small : l.bits ≤ 40 * l.residual-index;
}
