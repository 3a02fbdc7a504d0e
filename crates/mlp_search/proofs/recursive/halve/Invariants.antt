use Rattle.std.proofs.Common.{◌≡◌, ◌≤◌, ◌++◌, take, drop}
use Rattle.std.specs.Prelude.{unsigned_abs}
use Rattle.mlp_search.specs.Lines.{excesses}
use Rattle.mlp_search.proofs.RecursiveLaws.{RisesFrom}
use Rattle.mlp_search.proofs.recursive.halve.Given as goal

abbrev pub invariant-loop-i : goal.invariant-loop-i
invariant-loop-i l = record {
  done : take l.i l.values ++ excesses l.step l.excess (drop l.i l.values) ≡ excesses l.step l.first l.fn.values;
  few : unsigned_abs l.excess ≤ 536870912;
  rises : RisesFrom l.step l.i l.values;
}
