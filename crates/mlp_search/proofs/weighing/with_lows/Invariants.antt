use Rattle.std.proofs.Common.{◌≡◌, map, true}
use Rattle.std.specs.List.{flat_map, range_with_len}
use Rattle.mlp_search.specs.Cost.{cost_over}
use Rattle.mlp_search.specs.Folded.{stepped}
use Rattle.mlp_search.specs.Least.{least_from, with_offsets}
use Rattle.mlp_search.proofs.weighing.with_lows.Given as goal

abbrev pub invariant-loop-low : goal.invariant-loop-low
invariant-loop-low l = l.best ≡ least_from (cost_over l.state l.step true l.trial.pair (map (stepped l.step) l.values)) l.fn.best (flat_map (with_offsets l.trial.number l.trial.middle l.book) (range_with_len 0 l.low))
