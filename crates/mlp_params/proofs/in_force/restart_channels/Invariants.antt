use Rattle.std.proofs.Common.{◌≡◌, replicate, length}
use Rattle.mlp_params.specs.InForce.{restarted_channel}
use Rattle.mlp_params.proofs.in_force.restart_channels.Given as goal

abbrev pub invariant-loop : goal.invariant-loop
invariant-loop l = (l.out.items ≡ replicate l.counter restarted_channel) × (length l.out.items ≡ l.counter)
