use Rattle.std.proofs.Common.{◌-◌, true, arith}
use Rattle.std.specs.List.{flat_map, range_with_len}
use Rattle.mlp_search.specs.Cost.{cost_of}
use Rattle.mlp_search.specs.Least.{with_books, middle_for}
use Rattle.mlp_search.proofs.Scanning.{scan_more_from, scan_ends}
use Rattle.mlp_search.proofs.SkipLaws.{still_within}
use Rattle.mlp_search.proofs.search.with_all_computed.Goals as goal

pub loop-number-preserved : goal.loop-number-preserved
loop-number-preserved c =
    scan_more_from (cost_of c.args.state.now c.args.history.now c.args.step true c.args.samples.now) (λ n. with_books n (middle_for c.args.state.now c.args.history.now c.args.step c.args.samples.now n))
    c.args.best c.loop-number.best c.with_computed-best.result 10 c.loop-number.number (omega arith) c.loop-number.invariant c.with_computed-best.ensures

pub with_computed-best-requires-clause-first : goal.with_computed-best-requires-clause-first
with_computed-best-requires-clause-first c = still_within (cost_of c.args.state.now c.args.history.now c.args.step true c.args.samples.now) c.args.best c.loop-number.best
    (flat_map (λ n. with_books n (middle_for c.args.state.now c.args.history.now c.args.step c.args.samples.now n)) (range_with_len 10 (c.loop-number.number - 10))) c.loop-number.invariant c.requires.first

pub returns : goal.returns
returns c = scan_ends (cost_of c.args.state.now c.args.history.now c.args.step true c.args.samples.now) (λ n. with_books n (middle_for c.args.state.now c.args.history.now c.args.step c.args.samples.now n))
    c.args.best c.loop-number.best 10 c.loop-number.number 8 (omega arith) c.loop-number.invariant
