use Rattle.std.proofs.Common.{ap, sym, subst, ◌∙◌, pos}
use Rattle.mlp_syntax.specs.declared.params.Filter.{Filter}
use Rattle.mlp_params.specs.InForce.{restarted_channel}
use Rattle.mlp_params.specs.States.{IsChannelState}
use Rattle.mlp_params.proofs.LawfulStates.{restarted_is}
use Rattle.mlp_tests_signal.proofs.search.restarted.Goals as goal

pub returns-clause-value : goal.returns-clause-value
returns-clause-value c =
    ap (λ (f : Filter 8). record { fir = f; iir = c.absent-2.result; offset = pos 0; book = 0; low = 24 }) c.absent.ensures
    ∙ ap (λ (f : Filter 4). record { fir = restarted_channel.fir; iir = f; offset = pos 0; book = 0; low = 24 }) c.absent-2.ensures

pub returns-clause-lawful : goal.returns-clause-lawful
returns-clause-lawful c = subst IsChannelState (sym (returns-clause-value c)) restarted_is
