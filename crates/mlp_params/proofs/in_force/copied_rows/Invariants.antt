use Rattle.std.proofs.Common.{◌≡◌, take, length}
use Rattle.mlp_params.proofs.in_force.copied_rows.Given as goal

abbrev pub invariant-loop-row : goal.invariant-loop-row
invariant-loop-row l = (l.copy.items ≡ take l.row-index l.items) × (length l.copy.items ≡ l.row-index)
