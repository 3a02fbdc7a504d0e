use Rattle.mlp_matrix.specs.Front.{AreUsed}
use Rattle.mlp_matrix.proofs.matrix.used.Given as goal

abbrev pub invariant-loop-at : goal.invariant-loop-at
invariant-loop-at l = AreUsed l.at l.coeffs
