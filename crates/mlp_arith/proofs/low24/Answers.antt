use Rattle.mlp_arith.proofs.Computed.{shifted_24}
use Rattle.mlp_arith.proofs.low24.Goals as goal

pub returns : goal.returns
returns c = shifted_24 c.args.v c.ranges.v
