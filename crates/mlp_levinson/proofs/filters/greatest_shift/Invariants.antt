use Rattle.std.proofs.Common.{◌≡◌, ◌≤◌}
use Rattle.mlp_levinson.specs.Computed.{greatest_shift}
use Rattle.mlp_levinson.proofs.filters.greatest_shift.Given as goal

abbrev pub invariant-loop-shift : goal.invariant-loop-shift
invariant-loop-shift l = (greatest_shift 15 l.coefficients ≡ greatest_shift l.shift l.coefficients) × (l.shift ≤ 15)

abbrev pub decreases-loop-shift : goal.decreases-loop-shift
decreases-loop-shift l = l.shift
