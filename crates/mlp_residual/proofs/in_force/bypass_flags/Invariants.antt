use Rattle.std.proofs.Common.{◌≡◌, ◌++◌, length, map, drop}
use Rattle.mlp_residual.proofs.in_force.bypass_flags.Given as goal

abbrev pub invariant-loop-row : goal.invariant-loop-row
invariant-loop-row l = record {
  so_far : l.flags.items ++ map (λ row. row.bypass) (drop l.row-index l.rows) ≡ map (λ row. row.bypass) l.rows;
  count : length l.flags.items ≡ l.row-index;
}
