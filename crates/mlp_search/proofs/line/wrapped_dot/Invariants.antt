use Rattle.std.proofs.Common.{◌≡◌, take}
use Rattle.mlp_arith.specs.Words.{wrap}
use Rattle.mlp_predict.specs.Prediction.{dot}
use Rattle.mlp_search.proofs.line.wrapped_dot.Given as goal

abbrev pub invariant-loop-i : goal.invariant-loop-i
invariant-loop-i g l = l.sum ≡ wrap (dot (take l.i l.coeffs) l.values)
