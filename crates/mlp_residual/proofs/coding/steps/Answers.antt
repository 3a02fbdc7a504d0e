use Rattle.mlp_residual.proofs.Codes.{shl_steps}
use Rattle.mlp_residual.proofs.coding.steps.Goals as goal

pub returns : goal.returns
returns c = shl_steps c.args.step c.args.value c.requires.step c.ranges.value c.requires.least c.requires.most
