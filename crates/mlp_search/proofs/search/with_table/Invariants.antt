use Rattle.std.proofs.Common.{◌≡◌, ◌-◌, true}
use Rattle.std.specs.List.{flat_map, range_with_len}
use Rattle.mlp_search.specs.Cost.{cost_of}
use Rattle.mlp_search.specs.Least.{least_from, with_books, middle_for}
use Rattle.mlp_search.proofs.search.with_table.Given as goal

abbrev pub invariant-loop-number : goal.invariant-loop-number
invariant-loop-number l = l.best ≡ least_from (cost_of l.state l.history l.step true l.samples) l.fn.best (flat_map (λ n. with_books n (middle_for l.state l.history l.step l.samples n)) (range_with_len 1 (l.number - 1)))
