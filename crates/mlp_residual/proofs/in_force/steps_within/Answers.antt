use Rattle.std.proofs.Common.{sym, ◌∙◌, arith}
use Rattle.mlp_residual.proofs.StepLaws.{channels_end}
use Rattle.mlp_residual.proofs.in_force.steps_within.Goals as goal

pub returns-then-i-channels : goal.returns-then-i-channels
returns-then-i-channels c = sym (channels_end c.args.steps.now c.args.channels.now c.loop-i.i (omega arith)) ∙ c.loop-i.invariant
