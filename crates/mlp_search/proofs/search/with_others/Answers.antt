use Rattle.std.proofs.Common.{true, sym, ◌∙◌}
use Rattle.std.specs.List.{flat_map, range_with_len}
use Rattle.mlp_search.specs.Cost.{cost_of}
use Rattle.mlp_search.specs.Least.{with_books, middle_for}
use Rattle.mlp_search.proofs.Scanning.{scan_continued}
use Rattle.mlp_search.proofs.SkipLaws.{still_within, all_computed_kept}
use Rattle.mlp_search.proofs.search.with_others.Goals as goal

pub with_all_computed-requires-clause-first : goal.with_all_computed-requires-clause-first
with_all_computed-requires-clause-first c =
    still_within (cost_of c.args.state.now c.args.history.now c.args.step true c.args.samples.now) c.args.first c.with_table-best.result
    (flat_map (λ n. with_books n (middle_for c.args.state.now c.args.history.now c.args.step c.args.samples.now n)) (range_with_len 1 9)) c.with_table-best.ensures c.requires.first

pub returns-then-not-is_better : goal.returns-then-not-is_better
returns-then-not-is_better c =
    let within = still_within (cost_of c.args.state.now c.args.history.now c.args.step true c.args.samples.now) c.args.first c.with_table-best.result
    (flat_map (λ n. with_books n (middle_for c.args.state.now c.args.history.now c.args.step c.args.samples.now n)) (range_with_len 1 9)) c.with_table-best.ensures c.requires.first in
    scan_continued (cost_of c.args.state.now c.args.history.now c.args.step true c.args.samples.now) (λ n. with_books n (middle_for c.args.state.now c.args.history.now c.args.step c.args.samples.now n))
    c.args.first c.with_table-best.result c.with_table-best.result 1 9 8 c.with_table-best.ensures
    (all_computed_kept c.args.state.now c.args.history.now c.args.step c.args.samples.now c.requires.state c.least_computed.result c.with_table-best.result c.least_computed.ensures.most c.least_computed.ensures.less within
    (sym c.is_better.ensures ∙ c.if-not-is_better.true))

pub returns : goal.returns
returns c = scan_continued (cost_of c.args.state.now c.args.history.now c.args.step true c.args.samples.now) (λ n. with_books n (middle_for c.args.state.now c.args.history.now c.args.step c.args.samples.now n))
    c.args.first c.with_table-best.result c.with_all_computed.result 1 9 8 c.with_table-best.ensures c.with_all_computed.ensures
