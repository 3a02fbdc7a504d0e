use Rattle.std.proofs.Common.{Bool, true, None, sym, ap, ◌∙◌}
use Rattle.std.specs.Prelude.{if◌then◌else◌}
use Rattle.std.specs.List.{flat_map, range_with_len}
use Rattle.mlp_search.specs.Cost.{cost_of}
use Rattle.mlp_search.specs.Least.{least_from, with_books, middle_for}
use Rattle.mlp_search.proofs.CandidateLaws.{is_cost}
use Rattle.mlp_search.proofs.Ranks.{first_within}
use Rattle.mlp_search.proofs.Scanning.{scan_first, scan_joined}
use Rattle.mlp_search.proofs.search.best_of.Goals as goal

pub returns-then-not-filters : goal.returns-then-not-filters
returns-then-not-filters c =
    scan_first (cost_of c.args.state.now c.args.history.now c.args.step true c.args.samples.now) (λ n. with_books n (middle_for c.args.state.now c.args.history.now c.args.step c.args.samples.now n))
    None c.with_filters-first.result c.with_filters-first.ensures
    ∙ ap (λ (t : Bool). least_from (cost_of c.args.state.now c.args.history.now c.args.step true c.args.samples.now) None
    (flat_map (λ n. with_books n (middle_for c.args.state.now c.args.history.now c.args.step c.args.samples.now n)) (range_with_len 0 (if t then 18 else 1)))) (sym c.if-not-filters.true)

pub with_others-requires-clause-first : goal.with_others-requires-clause-first
with_others-requires-clause-first c =
    first_within (cost_of c.args.state.now c.args.history.now c.args.step true c.args.samples.now) (middle_for c.args.state.now c.args.history.now c.args.step c.args.samples.now)
    (is_cost c.args.state.now c.args.history.now c.args.step true c.args.samples.now)
    c.with_filters-first.result c.with_filters-first.ensures

pub returns : goal.returns
returns c =
    scan_joined (cost_of c.args.state.now c.args.history.now c.args.step true c.args.samples.now) (λ n. with_books n (middle_for c.args.state.now c.args.history.now c.args.step c.args.samples.now n))
    None c.with_filters-first.result c.with_others.result 17 c.with_filters-first.ensures c.with_others.ensures
    ∙ ap (λ (t : Bool). least_from (cost_of c.args.state.now c.args.history.now c.args.step true c.args.samples.now) None
    (flat_map (λ n. with_books n (middle_for c.args.state.now c.args.history.now c.args.step c.args.samples.now n)) (range_with_len 0 (if t then 18 else 1)))) (sym c.if-not-filters.false)
