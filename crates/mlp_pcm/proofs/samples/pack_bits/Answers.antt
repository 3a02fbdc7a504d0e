use Rattle.std.proofs.Common.{◌≡◌, arith}
use Rattle.mlp_pcm.proofs.samples.pack_bits.Goals as goal

pub returns-then-bits-eq16 : goal.returns-then-bits-eq16
returns-then-bits-eq16 g c = rw c.if-bits-eq16.true c.pack_channels.ensures

pub returns : goal.returns
returns g c = let e : c.args.bits ≡ 24 = omega arith in rw e c.pack_channels-2.ensures
