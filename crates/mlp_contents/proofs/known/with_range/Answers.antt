use Rattle.std.proofs.Common.{◌≡◌, ◌+◌, ◌^◌, ℕ, Bool, cond, refl, ap, ◌∙◌, arith}
use Rattle.std.specs.Prelude.{nat_le, ◌&&◌, ◌||◌}
use Rattle.mlp_bits.specs.Bits.{bit}
use Rattle.mlp_residual.specs.Frames.{unpacked}
use Rattle.mlp_contents.proofs.Coverage.{bits_more, bits_done}
use Rattle.mlp_contents.proofs.known.with_range.Goals as goal

pub loop-channel-init : goal.loop-channel-init
unfolding unpacked
loop-channel-init c = record { small = omega arith; bits = refl }

pub loop-channel-preserved : goal.loop-channel-preserved
loop-channel-preserved c =
    let i = c.loop-channel.invariant in
    let f = λ (k : ℕ). bit c.args.covered k || (nat_le c.args.min k && nat_le k c.args.max) in
    let n = c.loop-channel.channel in
    let value = c.with_channel-channels.ensures.value ∙ ap (λ (b : Bool). c.loop-channel.channels + cond b (2 ^ n) 0) c.is_covered-covered.ensures in
    record {
      small = c.with_channel-channels.ensures.small;
      bits = ap (unpacked (n + 1)) value ∙ bits_more f c.loop-channel.channels n i.small i.bits;
    }

pub returns : goal.returns
returns c =
    let i = c.loop-channel.invariant in
    let f = λ (k : ℕ). bit c.args.covered k || (nat_le c.args.min k && nat_le k c.args.max) in
    let whole : c.loop-channel.channel ≡ 8 = omega arith in
    bits_done f c.loop-channel.channels (rw whole at i.small) (rw whole at i.bits)
