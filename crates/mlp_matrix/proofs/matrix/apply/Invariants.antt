use Rattle.std.proofs.Common.{◌≡◌, drop}
use Rattle.mlp_matrix.specs.Matrix.{applied_from}
use Rattle.mlp_matrix.proofs.matrix.apply.Given as goal

abbrev pub invariant-loop-i : goal.invariant-loop-i
invariant-loop-i l = applied_from l.i (drop l.i l.rows) l.steps l.bypass l.frame ≡ applied_from 0 l.rows l.steps l.bypass l.initial.frame
