use Rattle.std.proofs.Common.{◌≡◌, ◌+◌, ◌-◌, ◌*◌, ◌<◌, ℕ, true, false, map, length, arith, sym, ap, ◌∙◌}
use Rattle.mlp_search.specs.Cost.{most_low, cost_over}
use Rattle.mlp_search.specs.Folded.{stepped}
use Rattle.mlp_search.specs.Least.{is_better, with_offsets}
use Rattle.mlp_search.proofs.KeptLaws.{most_below_all, none_before, none_behind, low_behind}
use Rattle.mlp_search.proofs.Scanning.{scan_more, scan_stops, scan_begins}
use Rattle.mlp_search.proofs.weighing.with_lows.Goals as goal

pub first_low-low-requires-clause-zero : goal.first_low-low-requires-clause-zero
first_low-low-requires-clause-zero c = c.requires.sides.zero.under

pub first_low-low-requires-clause-middle : goal.first_low-low-requires-clause-middle
first_low-low-requires-clause-middle c = c.requires.sides.middle.under

pub loop-low-init : goal.loop-low-init
loop-low-init c =
    scan_begins (cost_over c.args.state.now c.args.step true c.args.trial.now.pair (map (stepped c.args.step) c.args.values.now)) (with_offsets c.args.trial.now.number c.args.trial.now.middle c.args.book) c.args.best c.first_low-low.result
    (λ j lt. none_before c.args.state.now c.args.step c.args.trial.now c.args.values.now c.requires.writes c.args.sides.now.zero c.args.sides.now.middle c.requires.sides.zero c.requires.sides.middle
    c.requires.sides.at_zero c.requires.sides.at_middle
    c.args.book c.first_low-low.result j c.args.best lt c.first_low-low.ensures.none)

pub returns-then-not-is_better : goal.returns-then-not-is_better
returns-then-not-is_better c =
    let each : c.from.result + c.least_symbol_bits-symbol.result ≡ c.loop-low.low - c.args.step + c.least_symbol_bits-symbol.result = ap (λ (k : ℕ). k + c.least_symbol_bits-symbol.result) c.from.ensures in
    let no : is_better (c.min-base.result + length c.args.values.now * (c.loop-low.low - c.args.step + c.least_symbol_bits-symbol.result)) c.loop-low.best ≡ false =
    ap (λ (k : ℕ). is_better (c.min-base.result + length c.args.values.now * k) c.loop-low.best) (sym each) ∙ sym c.is_better.ensures ∙ c.if-not-is_better.true
    in
    scan_stops (cost_over c.args.state.now c.args.step true c.args.trial.now.pair (map (stepped c.args.step) c.args.values.now)) (with_offsets c.args.trial.now.number c.args.trial.now.middle c.args.book)
    c.args.best c.loop-low.best c.loop-low.low 32
    (omega (arith, most_below_all c.args.book)) c.loop-low.invariant
    (λ j from to. low_behind c.args.state.now c.args.step c.args.trial.now c.args.values.now c.requires.writes c.args.sides.now.zero c.args.sides.now.middle c.requires.sides.zero c.requires.sides.middle
    c.requires.sides.at_zero c.requires.sides.at_middle
    c.args.book c.min-base.result c.loop-low.low j c.least_symbol_bits-symbol.result c.loop-low.best from (omega (arith, c.min-base.ensures)) (omega (arith, c.min-base.ensures)) c.least_symbol_bits-symbol.ensures.least no)

pub loop-low-preserved : goal.loop-low-preserved
loop-low-preserved c =
    scan_more (cost_over c.args.state.now c.args.step true c.args.trial.now.pair (map (stepped c.args.step) c.args.values.now)) (with_offsets c.args.trial.now.number c.args.trial.now.middle c.args.book)
    c.args.best c.loop-low.best c.with_offsets-best.result c.loop-low.low c.loop-low.invariant c.with_offsets-best.ensures

pub returns : goal.returns
returns c =
    let over : most_low c.args.book < c.loop-low.low = omega (arith, c.most_low-low-end.ensures, c.loop-low-test.false) in
    scan_stops (cost_over c.args.state.now c.args.step true c.args.trial.now.pair (map (stepped c.args.step) c.args.values.now)) (with_offsets c.args.trial.now.number c.args.trial.now.middle c.args.book)
    c.args.best c.loop-low.best c.loop-low.low 32
    (omega (arith, most_below_all c.args.book, c.first_low-low.ensures.most, c.most_low-low-end.ensures)) c.loop-low.invariant
    (λ j from to. none_behind c.args.state.now c.args.step c.args.trial.now c.args.values.now c.requires.writes c.args.sides.now.zero c.args.sides.now.middle c.requires.sides.zero c.requires.sides.middle
    c.requires.sides.at_zero c.requires.sides.at_middle
    c.args.book j c.loop-low.best (omega (arith, over, from)))
