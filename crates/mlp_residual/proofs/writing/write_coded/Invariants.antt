use Rattle.std.proofs.Common.{length}
use Rattle.mlp_layout.proofs.WritingLaws.{SoFar, left_of, LeftFits}
use Rattle.mlp_residual.specs.Frames.{frame}
use Rattle.mlp_residual.proofs.FrameWriting.{series_text}
use Rattle.mlp_residual.proofs.writing.write_coded.Given as goal

abbrev pub invariant-loop-i : goal.invariant-loop-i
invariant-loop-i l = record {
  so_far : SoFar l.fn.w l.w (left_of (λ _. frame l.coding) l.frames l.i) (series_text (λ _. frame l.coding) (length l.frames) l.frames);
  fits : LeftFits (λ _. frame l.coding) l.frames l.i;
}
