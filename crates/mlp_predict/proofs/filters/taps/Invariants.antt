use Rattle.std.proofs.Common.{◌≡◌, ◌++◌, ◌-◌, take, pos, replicate}
use Rattle.mlp_predict.specs.Filters.{scaled}
use Rattle.mlp_predict.proofs.filters.taps.Given as goal

abbrev pub invariant-loop-i : goal.invariant-loop-i
invariant-loop-i g l = l.taps ≡ scaled l.coeff_shift (take l.i l.fields) ++ replicate (g.row.M - l.i) (pos 0)
