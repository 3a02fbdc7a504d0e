use Rattle.std.proofs.Common.{length}
use Rattle.mlp_layout.proofs.WritingLaws.{SoFar, left_of, LeftFits}
use Rattle.mlp_residual.specs.Frames.{code_at}
use Rattle.mlp_residual.proofs.FrameWriting.{series_text}
use Rattle.mlp_residual.proofs.writing.put_codes.Given as goal

abbrev pub invariant-loop-i : goal.invariant-loop-i
invariant-loop-i l = record {
  so_far : SoFar l.fn.w l.w (left_of (code_at l.channels) l.codes l.i) (series_text (code_at l.channels) (length l.channels) l.codes);
  fits : LeftFits (code_at l.channels) l.codes l.i;
}
