use Rattle.std.proofs.Common.{◌≡◌, ◌<◌, ◌^◌, map}
use Rattle.std.specs.Prelude.{nat_le, ◌&&◌, ◌||◌}
use Rattle.std.specs.List.{range_with_len}
use Rattle.mlp_bits.specs.Bits.{bit}
use Rattle.mlp_residual.specs.Frames.{unpacked}
use Rattle.mlp_contents.proofs.known.with_range.Given as goal

abbrev pub invariant-loop-channel : goal.invariant-loop-channel
invariant-loop-channel l = record {
  small : l.channels < 2 ^ l.channel;
  bits : unpacked l.channel l.channels ≡ map (λ c. bit l.covered c || (nat_le l.min c && nat_le c l.max)) (range_with_len 0 l.channel);
}
