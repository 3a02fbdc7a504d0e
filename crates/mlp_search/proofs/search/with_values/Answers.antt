use Rattle.std.proofs.Common.{ℕ, ℤ, List, true, map, ap, ◌∙◌}
use Rattle.mlp_search.specs.declared.pair.Pair.{Pair}
use Rattle.mlp_search.specs.Candidates.{middle_of}
use Rattle.mlp_search.specs.Cost.{cost_over}
use Rattle.mlp_search.specs.Folded.{stepped}
use Rattle.mlp_search.specs.Least.{least_from, with_books}
use Rattle.mlp_search.proofs.search.with_values.Goals as goal

pub returns : goal.returns
returns c =
    let rs : List ℤ = map (stepped c.args.step) c.args.values.now in
    let trial = c.trial_of-trial.ensures.trial c.args.state.now c.requires.writing in
    c.with_books.ensures
    ∙ ap (λ (m : ℤ). least_from (cost_over c.args.state.now c.args.step true c.trial_of-trial.result.pair rs) c.args.best (with_books c.trial_of-trial.result.number m)) trial.middle
    ∙ ap (λ (p : Pair). least_from (cost_over c.args.state.now c.args.step true p rs) c.args.best (with_books c.trial_of-trial.result.number (middle_of 0 c.args.values.now))) c.trial_of-trial.ensures.pair
    ∙ ap (λ (n : ℕ). least_from (cost_over c.args.state.now c.args.step true c.args.pair rs) c.args.best (with_books n (middle_of 0 c.args.values.now))) c.trial_of-trial.ensures.number

pub with_books-requires-clause-trial : goal.with_books-requires-clause-trial
with_books-requires-clause-trial c = c.trial_of-trial.ensures.trial c.args.state.now c.requires.writing
