use Rattle.std.proofs.Common.{◌≡◌, ◌-◌, ℕ, true, map, arith, sym, ap, ◌∙◌}
use Rattle.std.specs.List.{flat_map, range_with_len}
use Rattle.mlp_search.specs.Cost.{cost_over}
use Rattle.mlp_search.specs.Folded.{stepped}
use Rattle.mlp_search.specs.Least.{least_from, with_lows}
use Rattle.mlp_search.proofs.KeptLaws.{books_kept, sides_with}
use Rattle.mlp_search.proofs.Scanning.{scan_more_behind}
use Rattle.mlp_search.proofs.weighing.with_counted.Goals as goal

pub returns-then-not-is_better : goal.returns-then-not-is_better
returns-then-not-is_better c =
    books_kept c.args.state.now c.args.step c.args.trial.now c.args.values.now c.requires.writes c.args.sides.now.zero c.args.sides.now.middle c.requires.sides.zero c.requires.sides.middle
    c.requires.sides.at_zero c.requires.sides.at_middle c.min.result
    c.side_least-zero.result c.side_least-middle.result c.args.best c.side_least-zero.ensures c.side_least-middle.ensures (omega (arith, c.min.ensures)) (omega (arith, c.min.ensures)) (sym c.is_better-3.ensures ∙ c.if-not-is_better.true)

pub loop-book-preserved : goal.loop-book-preserved
loop-book-preserved c =
    scan_more_behind (cost_over c.args.state.now c.args.step true c.args.trial.now.pair (map (stepped c.args.step) c.args.values.now)) (with_lows c.args.trial.now.number c.args.trial.now.middle)
    c.args.best c.loop-book.best c.with_lows-best.result c.loop-book.book
    (omega arith) c.loop-book.invariant c.with_lows-best.ensures

pub returns : goal.returns
returns c =
    let done : c.loop-book.book - 1 ≡ 3 = omega arith in
    c.loop-book.invariant
    ∙ ap (λ (k : ℕ). least_from (cost_over c.args.state.now c.args.step true c.args.trial.now.pair (map (stepped c.args.step) c.args.values.now)) c.args.best
    (flat_map (with_lows c.args.trial.now.number c.args.trial.now.middle) (range_with_len 1 k))) done

pub with_lows-best-requires-clause-sides : goal.with_lows-best-requires-clause-sides
with_lows-best-requires-clause-sides c =
    sides_with c.args.state.now c.args.step c.args.trial.now c.args.values.now c.args.sides.now c.with_least.result c.with_least-2.result c.side_least-zero.result c.side_least-middle.result
    c.requires.sides c.side_least-zero.ensures c.side_least-middle.ensures c.with_least.ensures c.with_least-2.ensures
