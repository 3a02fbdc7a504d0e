use Rattle.std.proofs.Common.{◌≡◌, ◌+◌, ◌*◌, ◌≤◌, length, sym, subst, ap, ◌∙◌}
use Rattle.std.specs.Prelude.{unwrap_or}
use Rattle.mlp_search.specs.declared.choice.Choice.{Choice}
use Rattle.mlp_search.specs.Cost.{cost_of}
use Rattle.mlp_search.specs.Least.{chosen, IsLeast}
use Rattle.mlp_search.proofs.ChosenLaws.{chosen_least, chosen_cheap}
use Rattle.mlp_search.proofs.SearchLaws.{found_is, cost_widens}
use Rattle.mlp_search.proofs.search.choose.Goals as goal

is_chosen : (c : goal.After-unwrap_or) → c.unwrap_or.result ≡ chosen c.args.state.now c.args.history.now c.args.step c.args.filters c.args.samples.now
is_chosen c =
    c.unwrap_or.ensures
    ∙ ap (unwrap_or c.best_for-best.result) c.choice_of.ensures
    ∙ found_is c.args.state.now c.args.history.now c.args.step c.args.samples.now c.args.filters c.best_for-best.result c.best_for-best.ensures

is_least : (c : goal.After-unwrap_or) → IsLeast (cost_of c.args.state.now c.args.history.now c.args.step c.args.filters c.args.samples.now) c.unwrap_or.result
is_least c =
    subst (λ (d : Choice). IsLeast (cost_of c.args.state.now c.args.history.now c.args.step c.args.filters c.args.samples.now) d) (sym (is_chosen c))
    (chosen_least c.args.state.now c.args.history.now c.args.step c.args.filters c.args.samples.now c.requires.state c.requires.step c.requires.samples c.requires.whole c.requires.fir c.requires.iir)

pub returns-clause-chosen : goal.returns-clause-chosen
returns-clause-chosen c = is_chosen c

pub returns-clause-least : goal.returns-clause-least
returns-clause-least c = is_least c

pub returns-clause-costs : goal.returns-clause-costs
returns-clause-costs c =
    let least = is_least c in
    cost_widens c.args.state.now c.args.history.now c.args.step c.args.filters c.args.samples.now c.unwrap_or.result c.unwrap_or.result.bits least.costs

pub returns-clause-cheap : goal.returns-clause-cheap
returns-clause-cheap c =
    subst (λ (d : Choice). d.bits ≤ 34 + 26 * length c.args.samples.now) (sym (is_chosen c))
    (chosen_cheap c.args.state.now c.args.history.now c.args.step c.args.filters c.args.samples.now c.requires.state c.requires.step c.requires.samples c.requires.whole c.requires.fir c.requires.iir)
