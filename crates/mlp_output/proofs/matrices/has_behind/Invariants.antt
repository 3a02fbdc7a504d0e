use Rattle.std.proofs.Common.{◌≡◌, ℕ, ◌<◌, ◌≤◌, get_or, None, false}
use Rattle.std.specs.Prelude.{is_some}
use Rattle.mlp_output.proofs.matrices.has_behind.Given as goal

abbrev pub invariant-loop-i : goal.invariant-loop-i
invariant-loop-i l = (k : ℕ) → l.places ≤ k → k < l.i → is_some (get_or l.coeffs k None) ≡ false
