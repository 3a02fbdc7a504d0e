use Rattle.std.proofs.Common.{◌-◌, ◌/◌, ◌^◌, ◌≤◌, true, map, arith, refl, sym, ◌∙◌}
use Rattle.mlp_residual.specs.Coding.{symbols_of}
use Rattle.mlp_search.specs.declared.choice.Choice.{Choice}
use Rattle.mlp_search.specs.Cost.{cost_over}
use Rattle.mlp_search.specs.Folded.{stepped}
use Rattle.mlp_search.specs.Least.{choice_of}
use Rattle.mlp_search.proofs.KeptLaws.{some_symbols, bounded, kept_none, code_bound}
use Rattle.mlp_search.proofs.weighing.tried.Goals as goal

pub returns-then-side-low : goal.returns-then-side-low
returns-then-side-low c =
    let le : symbols_of c.args.book ≤ c.args.side.now.top / 2 ^ (c.args.low - c.args.step) = omega (arith, c.symbols_of.ensures, c.if-side-low.true) in
    sym (kept_none c.args.state.now c.args.step c.args.trial.now c.args.values.now c.requires.writes c.args.side.now c.requires.side (choice_of c.args.trial.now.number c.args.book c.args.low c.args.side.now.offset) c.args.best refl
    (some_symbols c.args.book) le)

pub returns-then-not-is_better : goal.returns-then-not-is_better
returns-then-not-is_better c =
    let d : Choice = choice_of c.args.trial.now.number c.args.book c.args.low c.args.side.now.offset in
    sym (bounded (cost_over c.args.state.now c.args.step true c.args.trial.now.pair (map (stepped c.args.step) c.args.values.now)) c.args.side.now.least c.args.best d
    (sym c.is_better.ensures ∙ c.if-not-is_better.true)
    (λ k e. code_bound c.args.state.now c.args.step c.args.trial.now c.args.values.now c.requires.writes c.args.side.now c.requires.side d k c.args.side.now.least refl refl
    (some_symbols c.args.book) (c.requires.side.least c.args.book (c.args.low - c.args.step) (omega arith) c.requires.book) e))
