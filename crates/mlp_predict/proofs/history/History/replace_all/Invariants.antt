use Rattle.std.proofs.Common.{◌≡◌, ◌++◌, take, drop, reverse}
use Rattle.mlp_predict.proofs.history.History.replace_all.Given as goal

abbrev pub invariant-loop-i : goal.invariant-loop-i
invariant-loop-i g l = l.self ≡ take l.i (reverse l.line) ++ drop l.i l.initial.self
