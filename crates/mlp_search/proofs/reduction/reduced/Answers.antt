use Rattle.std.proofs.Common.{◌≡◌, true, Some, sym, ap, subst, ◌∙◌}
use Rattle.std.specs.Prelude.{option_map, All, FitsSigned}
use Rattle.std.specs.Int.{w32}
use Rattle.mlp_predict.specs.Prediction.{Past, residuals_of, past_of, latest}
use Rattle.mlp_predict.specs.Filters.{filters_of}
use Rattle.mlp_search.specs.declared.pair.Pair.{Pair}
use Rattle.mlp_search.specs.Candidates.{pair_of, past_for, residuals_for, past_behind}
use Rattle.mlp_search.proofs.SearchLaws.{words_there}
use Rattle.mlp_search.proofs.reduction.reduced.Goals as goal

pub returns-clause-residuals : goal.returns-clause-residuals
returns-clause-residuals c =
    let pair : Pair = c.in_ok-pair.pair in
    let there : pair_of c.args.state.now c.args.step c.args.samples.now c.args.choice.now.filter ≡ Some pair = sym c.in_ok-pair.ensures.value in
    let words = words_there c.args.state.now c.args.history.now c.args.step true c.args.samples.now c.args.choice.now pair c.requires.costs there in
    let seen = subst (λ (p : Past). All (FitsSigned w32) (residuals_of (filters_of pair.fir pair.iir) p c.args.step c.args.samples.now))
    (sym (c.put_state.ensures ∙ ap (λ (p : Pair). past_for c.args.choice.now.filter p c.args.history.now) c.view.ensures)) words in
    let is = c.reduce_block-fit.ensures.values (c.reduce_block-fit.ensures.fit.1 seen) in
    ap (option_map (residuals_for c.args.history.now c.args.step c.args.samples.now c.args.choice.now.filter)) there
    ∙ ap Some (sym (is ∙ ap (λ (p : Past). residuals_of (filters_of pair.fir pair.iir) p c.args.step c.args.samples.now) (c.put_state.ensures ∙ ap (λ (p : Pair). past_for c.args.choice.now.filter p c.args.history.now) c.view.ensures)))

pub returns-clause-past : goal.returns-clause-past
returns-clause-past c =
    let pair : Pair = c.in_ok-pair.pair in
    let there : pair_of c.args.state.now c.args.step c.args.samples.now c.args.choice.now.filter ≡ Some pair = sym c.in_ok-pair.ensures.value in
    let words = words_there c.args.state.now c.args.history.now c.args.step true c.args.samples.now c.args.choice.now pair c.requires.costs there in
    let seen = subst (λ (p : Past). All (FitsSigned w32) (residuals_of (filters_of pair.fir pair.iir) p c.args.step c.args.samples.now))
    (sym (c.put_state.ensures ∙ ap (λ (p : Pair). past_for c.args.choice.now.filter p c.args.history.now) c.view.ensures)) words in
    let is = c.reduce_block-fit.ensures.past (c.reduce_block-fit.ensures.fit.1 seen) in
    ap (option_map (past_behind c.args.history.now c.args.samples.now c.args.choice.now.filter)) there
    ∙ ap Some (sym (is ∙ ap (λ (p : Past). latest 8 4 (past_of (filters_of pair.fir pair.iir) p c.args.samples.now)) (c.put_state.ensures ∙ ap (λ (p : Pair). past_for c.args.choice.now.filter p c.args.history.now) c.view.ensures)))
