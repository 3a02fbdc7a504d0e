use Rattle.std.proofs.Common.{◌≡◌, ℕ, ◌+◌, ◌<◌, length, get_or, None}
use Rattle.mlp_residual.specs.Coding.{Counts}
use Rattle.mlp_residual.proofs.widths.bits_of_widths.Given as goal

abbrev pub invariant-loop-i : goal.invariant-loop-i
invariant-loop-i l = record {
  same : length l.out ≡ length l.fn.out;
  counts : (i : ℕ) → i < l.i → Counts l.book (l.least + i) l.offset l.step l.residuals (get_or l.out i None);
}
