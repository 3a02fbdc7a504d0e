use Rattle.std.proofs.Common.{ℕ, ◌*◌, ◌≤◌, ◌^◌, pos, ◌*ℤ◌, drop, map}
use Rattle.mlp_residual.proofs.Counting.{Counted}
use Rattle.mlp_residual.proofs.widths.bits_of_values.Given as goal

abbrev pub invariant-loop-value : goal.invariant-loop-value
invariant-loop-value l = record {
  counted : (step : ℕ) → Counted l.fn.book l.fn.b l.fn.offset step (map (λ v. v *ℤ pos (2 ^ step)) l.values) (drop l.value-index (map (λ v. v *ℤ pos (2 ^ step)) l.values)) l.bits;
  small : l.bits ≤ 286 * l.value-index;
}
