use Rattle.std.proofs.Common.{◌≡◌, take}
use Rattle.mlp_fold.proofs.matrices.row.Given as goal

abbrev pub invariant-loop-i : goal.invariant-loop-i
invariant-loop-i l = l.coeffs.items ≡ take l.i l.fields
