use Rattle.std.proofs.Common.{◌≡◌, ◌++◌, ◌-◌, take, drop, reverse}
use Rattle.mlp_predict.proofs.lines.put_before.Given as goal

abbrev pub invariant-loop-i : goal.invariant-loop-i
invariant-loop-i l = l.line ≡ take (16 - l.i) l.initial.line ++ reverse (take l.i l.values) ++ drop 16 l.initial.line
