use Rattle.std.proofs.Common.{◌≡◌, take}
use Rattle.mlp_tests_signal.proofs.predict.filter.Given as goal

abbrev pub invariant-loop-i : goal.invariant-loop-i
invariant-loop-i g l = l.fields.items ≡ take l.i l.coeffs
