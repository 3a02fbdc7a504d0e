use Rattle.std.proofs.Common.{sym, subst, ◌∙◌, ap}
use Rattle.mlp_params.specs.declared.state.State.{State}
use Rattle.mlp_params.specs.Applied.{applied}
use Rattle.mlp_params.specs.States.{IsState}
use Rattle.mlp_params.proofs.InForceLaws.{one_step}
use Rattle.mlp_params.proofs.LawfulSteps.{applied_is}
use Rattle.mlp_params.proofs.in_force.apply.Goals as goal

pub returns-clause-behind : goal.returns-clause-behind
returns-clause-behind c = λ earlier e.
    let old = c.args.state.now in
    let given = c.args.given.now in
    c.replace_items.ensures ∙ ap (λ (s : State). applied s given) e ∙ sym (one_step old.format old.unit_frames old.restart earlier given)

pub returns-clause-lawful : goal.returns-clause-lawful
returns-clause-lawful c = subst IsState (sym c.replace_items.ensures) (applied_is c.args.state.now c.args.given.now c.requires.state c.requires.given)
