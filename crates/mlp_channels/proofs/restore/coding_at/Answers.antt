use Rattle.std.proofs.Common.{◌≤◌, ◌<◌, ℕ, List, length, get_or, sym, subst}
use Rattle.mlp_params.specs.declared.state.ChannelState.{ChannelState}
use Rattle.mlp_channels.specs.Channels.{step_at}
use Rattle.mlp_channels.proofs.CodedLaws.{in_force}
use Rattle.mlp_channels.proofs.restore.coding_at.Goals as goal

pub bounds-deref-channel : goal.bounds-deref-channel
bounds-deref-channel c =
    let f = in_force c.args.state.now c.args.channel c.requires.state c.requires.steps c.requires.coded in
    subst (λ (xs : List ℕ). c.args.channel < length xs) (sym c.deref.ensures.0) f.has_step

pub overflow_sub-result : goal.overflow_sub-result
overflow_sub-result c =
    let f = in_force c.args.state.now c.args.channel c.requires.state c.requires.steps c.requires.coded in
    subst (λ (xs : List ℕ). get_or xs c.args.channel 0 ≤ c.channel_at-coded.result.now.low) (sym c.deref.ensures.0)
    (subst (λ (k : ChannelState). step_at c.args.state.now c.args.channel ≤ k.low) (sym c.channel_at-coded.ensures) f.fits)

pub returns-clause-step : goal.returns-clause-step
returns-clause-step c =
    let f = in_force c.args.state.now c.args.channel c.requires.state c.requires.steps c.requires.coded in
    subst (λ (xs : List ℕ). get_or xs c.args.channel 0 < 16) (sym c.deref.ensures.0) f.step
