use Rattle.std.proofs.Common.{arith}
use Rattle.mlp_substream.proofs.CheckLaws.{bytes_of-bits}
use Rattle.mlp_encode.proofs.progress.law_bits.Goals as goal

pub returns : goal.returns
returns c = bytes_of-bits c.args.bytes.now (λ i. omega (arith, c.type_inv.bytes i))
