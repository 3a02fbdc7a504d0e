use Rattle.std.proofs.Common.{◌≡◌, ◌≤◌}
use Rattle.mlp_levinson.specs.Computed.{fewest_bits}
use Rattle.mlp_levinson.proofs.filters.fewest_bits.Given as goal

abbrev pub invariant-loop-width : goal.invariant-loop-width
invariant-loop-width l = (fewest_bits 16 l.numbers ≡ fewest_bits l.width l.numbers) × (l.width ≤ 16)

abbrev pub decreases-loop-width : goal.decreases-loop-width
decreases-loop-width l = l.width
