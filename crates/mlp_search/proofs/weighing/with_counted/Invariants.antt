use Rattle.std.proofs.Common.{◌≡◌, ◌-◌, map, true}
use Rattle.std.specs.List.{flat_map, range_with_len}
use Rattle.mlp_search.specs.Cost.{cost_over}
use Rattle.mlp_search.specs.Folded.{stepped}
use Rattle.mlp_search.specs.Least.{least_from, with_lows}
use Rattle.mlp_search.proofs.weighing.with_counted.Given as goal

abbrev pub invariant-loop-book : goal.invariant-loop-book
invariant-loop-book l = l.best ≡ least_from (cost_over l.state l.step true l.trial.pair (map (stepped l.step) l.values)) l.fn.best (flat_map (with_lows l.trial.number l.trial.middle) (range_with_len 1 (l.book - 1)))
