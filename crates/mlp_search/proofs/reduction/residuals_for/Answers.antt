use Rattle.std.proofs.Common.{◌≡◌, ◌↔◌, ℤ, List, ap, subst, ◌∙◌}
use Rattle.std.specs.Prelude.{All, FitsSigned, IsTrue}
use Rattle.std.specs.Int.{w32}
use Rattle.mlp_predict.specs.Prediction.{Past, residuals_of}
use Rattle.mlp_predict.specs.Filters.{filters_of}
use Rattle.mlp_search.specs.declared.pair.Pair.{Pair}
use Rattle.mlp_search.specs.Candidates.{past_for, residuals_for}
use Rattle.mlp_search.proofs.reduction.residuals_for.Goals as goal

pub returns-clause-fit : goal.returns-clause-fit
returns-clause-fit c =
    let seen = c.put_state.ensures ∙ ap (λ (p : Past). past_for c.args.number c.args.pair.now p) c.copied-past.ensures in
    let is : residuals_of (filters_of c.pair.inside.fir.now c.pair.inside.iir.now) c.put_state.new.history c.args.step c.args.samples.now
    ≡ residuals_for c.args.history.now c.args.step c.args.samples.now c.args.number c.args.pair.now =
    ap (λ (p : Past). residuals_of (filters_of c.pair.inside.fir.now c.pair.inside.iir.now) p c.args.step c.args.samples.now) seen
    ∙ ap (λ (q : Pair). residuals_of (filters_of q.fir q.iir) (past_for c.args.number c.args.pair.now c.args.history.now) c.args.step c.args.samples.now) c.pair.view_is
    in
    subst (λ (rs : List ℤ). IsTrue c.residuals.result ↔ All (FitsSigned w32) rs) is c.residuals.ensures.fit
