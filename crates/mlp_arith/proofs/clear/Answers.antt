use Rattle.mlp_arith.proofs.Computed.{shl_shr}
use Rattle.mlp_arith.proofs.clear.Goals as goal

pub returns : goal.returns
returns c = shl_shr c.args.step c.args.v c.requires c.ranges.v
