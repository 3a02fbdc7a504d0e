use Rattle.std.proofs.Common.{length}
use Rattle.mlp_layout.proofs.WritingLaws.{SoFar, left_of}
use Rattle.mlp_residual.specs.Frames.{bypass_bit, unpacked}
use Rattle.mlp_residual.proofs.FrameWriting.{series_text}
use Rattle.mlp_residual.proofs.writing.put_bypass.Given as goal

abbrev pub invariant-loop-i : goal.invariant-loop-i
invariant-loop-i l = SoFar l.fn.w l.w (left_of (bypass_bit l.rows) (unpacked (length l.rows) l.bypass) l.i) (series_text (bypass_bit l.rows) (length l.rows) (unpacked (length l.rows) l.bypass))
