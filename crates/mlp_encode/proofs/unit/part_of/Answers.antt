use Rattle.std.proofs.Common.{arith}
use Rattle.mlp_output.proofs.Sums.{no_bits_lost}
use Rattle.mlp_encode.proofs.unit.part_of.Goals as goal

pub returns : goal.returns
returns c = no_bits_lost c.args.word c.args.channel (omega (arith, c.requires))
