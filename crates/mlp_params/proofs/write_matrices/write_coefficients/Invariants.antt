use Rattle.std.proofs.Common.{true}
use Rattle.mlp_layout.specs.Combined.{signed_of, group}
use Rattle.mlp_layout.proofs.WritingLoops.{Along}
use Rattle.mlp_params.proofs.write_matrices.write_coefficients.Given as goal

abbrev pub invariant-loop-coefficient : goal.invariant-loop-coefficient
invariant-loop-coefficient l = Along (group true (signed_of l.width)) l.coeffs l.coefficient-index l.fn.w l.w
