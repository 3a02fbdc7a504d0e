use Rattle.std.proofs.Common.{drop}
use Rattle.mlp_layout.proofs.WritingLaws.{SoFar}
use Rattle.mlp_params.specs.Matrices.{row}
use Rattle.mlp_layout.proofs.WritingLoops.{text}
use Rattle.mlp_params.proofs.write_matrices.write_rows.Given as goal

abbrev pub invariant-loop-matrix : goal.invariant-loop-matrix
invariant-loop-matrix l = SoFar l.fn.w l.w (text (row l.restart) (drop l.matrix-index l.given)) (text (row l.restart) l.given)
