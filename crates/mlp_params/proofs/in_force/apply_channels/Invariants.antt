use Rattle.std.proofs.Common.{◌≡◌, length}
use Rattle.mlp_params.proofs.ApplyLaws.{so_far}
use Rattle.mlp_params.proofs.in_force.apply_channels.Given as goal

abbrev pub invariant-loop-i : goal.invariant-loop-i
invariant-loop-i l = (l.channels ≡ so_far l.fn.first l.fn.channels l.given l.i) × (length l.channels ≡ length l.fn.channels)
