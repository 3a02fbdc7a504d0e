use Rattle.std.proofs.Common.{◌≡◌, ◌++◌, ◌-◌, take, pos, replicate}
use Rattle.mlp_matrix.specs.Matrix.{weights_of}
use Rattle.mlp_matrix.proofs.row.weights.Given as goal

abbrev pub invariant-loop-i : goal.invariant-loop-i
invariant-loop-i g l = l.weights ≡ weights_of l.frac (take l.i l.coeffs) ++ replicate (g.row.M - l.i) (pos 0)
