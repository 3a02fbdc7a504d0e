use Rattle.std.proofs.Common.{ℕ, ◌<◌, get_or}
use Rattle.mlp_syntax.specs.declared.params.MatrixRow.{MatrixRow}
use Rattle.mlp_output.specs.Frames.{HasNoneBehind}
use Rattle.mlp_output.proofs.matrices.hears_noise.Given as goal

abbrev pub invariant-loop-i : goal.invariant-loop-i
invariant-loop-i l = (k : ℕ) (d : MatrixRow) → k < l.i → HasNoneBehind l.channels (get_or l.rows k d).coeffs.items
