use Rattle.std.proofs.Common.{true, sym, subst}
use Rattle.std.specs.Prelude.{All, FitsSigned, IsTrue}
use Rattle.std.specs.Int.{w32}
use Rattle.mlp_search.specs.declared.pair.Pair.{Pair}
use Rattle.mlp_search.specs.Candidates.{residuals_for}
use Rattle.mlp_search.proofs.SearchLaws.{no_cost_at}
use Rattle.mlp_search.proofs.costs.cost.Goals as goal

pub returns-then-not-residuals_for : goal.returns-then-not-residuals_for
returns-then-not-residuals_for c =
    no_cost_at c.args.state.now c.args.history.now c.args.step true c.args.samples.now c.args.choice.now c.in_ok-pair.pair c.residuals_for.result (sym c.in_ok-pair.ensures.value)
    (subst (λ (p : Pair). All (FitsSigned w32) (residuals_for c.args.history.now c.args.step c.args.samples.now c.args.choice.now.filter p) → IsTrue c.residuals_for.result) c.view-view.ensures c.residuals_for.ensures.fit.1)
    c.if-not-residuals_for.true

pub cost_over-requires-clause-trial : goal.cost_over-requires-clause-trial
cost_over-requires-clause-trial c = c.trial_of-trial.ensures.trial c.args.state.now c.writing_of-writing.ensures
