use Rattle.mlp_arith.proofs.Computed.{wrapped}
use Rattle.mlp_arith.proofs.wrap.Goals as goal

pub returns : goal.returns
returns c = wrapped c.args.v c.cast_signed.result c.cast_unsigned.result c.ranges.v (record { sfits = c.cast_signed.type_inv }) c.cast_unsigned.ensures c.cast_signed.ensures
