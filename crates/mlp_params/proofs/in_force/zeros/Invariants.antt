use Rattle.std.proofs.Common.{◌≡◌, replicate, length}
use Rattle.mlp_params.proofs.in_force.zeros.Given as goal

abbrev pub invariant-loop : goal.invariant-loop
invariant-loop l = (l.zeros.items ≡ replicate l.counter 0) × (length l.zeros.items ≡ l.counter)
