use Rattle.mlp_arith.proofs.Computed.{shifted_sample}
use Rattle.mlp_arith.proofs.sample24.Goals as goal

pub returns : goal.returns
returns c = shifted_sample c.args.v c.low24.result c.args.shift c.requires c.ranges.v (record { sfits = c.low24.type_inv }) c.low24.ensures
