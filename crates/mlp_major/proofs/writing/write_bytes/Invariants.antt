use Rattle.std.proofs.Common.{drop}
use Rattle.mlp_bits.specs.Bits.{bits_of}
use Rattle.mlp_layout.proofs.WritingLaws.{SoFar}
use Rattle.mlp_major.proofs.writing.write_bytes.Given as goal

abbrev pub invariant-loop-byte : goal.invariant-loop-byte
invariant-loop-byte l = SoFar l.fn.w l.w (bits_of (drop l.byte-index l.bytes)) (bits_of l.bytes)
