use Rattle.std.proofs.Common.{refl}
use Rattle.mlp_bits.specs.Bits.{bits_of, bits}
use Rattle.mlp_bits.proofs.writer.BitWriter.clear.Goals as goal

pub returns : goal.returns
unfolding bits_of bits
returns c = refl
