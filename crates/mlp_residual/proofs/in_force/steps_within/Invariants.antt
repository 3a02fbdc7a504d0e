use Rattle.std.proofs.Common.{◌≡◌, drop}
use Rattle.mlp_residual.specs.Frames.{steps_within}
use Rattle.mlp_residual.proofs.in_force.steps_within.Given as goal

abbrev pub invariant-loop-i : goal.invariant-loop-i
invariant-loop-i l = steps_within (drop l.i l.steps) (drop l.i l.channels) ≡ steps_within (drop l.least l.steps) (drop l.least l.channels)
