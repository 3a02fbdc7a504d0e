use Rattle.std.proofs.Common.{◌≡◌, ◌++◌, take, drop}
use Rattle.mlp_predict.specs.Filters.{scaled}
use Rattle.mlp_predict.proofs.history.History.replace_latest.Given as goal

abbrev pub invariant-loop-i : goal.invariant-loop-i
invariant-loop-i g l = l.self ≡ scaled l.shift (take l.i l.values) ++ drop l.i l.initial.self
