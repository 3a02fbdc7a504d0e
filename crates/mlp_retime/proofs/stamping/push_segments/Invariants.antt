use Rattle.std.proofs.Common.{◌≡◌, ◌*◌, length}
use Rattle.mlp_bits.specs.Bits.{bits_of}
use Rattle.mlp_unit.specs.Shape.{end_before}
use Rattle.mlp_retime.specs.Stamping.{restamped_from}
use Rattle.mlp_retime.proofs.stamping.push_segments.Given as goal

abbrev pub invariant-loop-substream : goal.invariant-loop-substream
invariant-loop-substream l =
    (bits_of l.out.items ≡ restamped_from l.place l.output l.unit l.outer 0 l.substream) × (length l.out.items ≡ 2 * end_before l.outer.entries.items l.substream)
