use Rattle.std.proofs.Common.{◌∙◌, ◌-◌, ap, sym, subst, List, arith}
use Rattle.mlp_params.specs.declared.state.ChannelState.{ChannelState}
use Rattle.mlp_params.specs.States.{IsChannelState}
use Rattle.mlp_residual.specs.declared.block.ResidualCoding.{ResidualCoding}
use Rattle.mlp_predict.specs.Filters.{AreFilters}
use Rattle.mlp_predict.specs.Outputs.{Frame, outputs_from, past_from}
use Rattle.mlp_channels.specs.Channels.{channel_at, coding_at}
use Rattle.mlp_channels.specs.Playing.{frames_by}
use Rattle.mlp_channels.proofs.GivenRanges.{are_filters}
use Rattle.mlp_channels.proofs.CodedLaws.{coded_between, in_force, coded_frames}
use Rattle.mlp_channels.proofs.restore.restore.Goals as goal

pub overflow_sub-index : goal.overflow_sub-index
overflow_sub-index c = let at = coded_between c.args.state.now c.args.channel c.requires.coded in omega (arith, at.from)

pub channel_at-coded-requires : goal.channel_at-coded-requires
channel_at-coded-requires c = (in_force c.args.state.now c.args.channel c.requires.state c.requires.codes.steps c.requires.coded).has_channel

pub restore_by-requires-clause-lawful : goal.restore_by-requires-clause-lawful
restore_by-requires-clause-lawful c = subst IsChannelState (sym c.channel_at-coded.ensures) (in_force c.args.state.now c.args.channel c.requires.state c.requires.codes.steps c.requires.coded).lawful

pub restore_by-requires-clause-filters : goal.restore_by-requires-clause-filters
restore_by-requires-clause-filters c =
    let f = in_force c.args.state.now c.args.channel c.requires.state c.requires.codes.steps c.requires.coded in
    subst (λ (k : ChannelState). AreFilters k.fir k.iir) (sym c.channel_at-coded.ensures) (are_filters (channel_at c.args.state.now c.args.channel) f.lawful)

pub restore_by-requires-clause-given : goal.restore_by-requires-clause-given
restore_by-requires-clause-given c =
    let at = coded_between c.args.state.now c.args.channel c.requires.coded in
    c.requires.given (c.args.channel - c.args.state.now.restart.min) (omega (arith, at.from, at.to))

pub restore_by-requires-clause-index : goal.restore_by-requires-clause-index
restore_by-requires-clause-index c =
    let at = coded_between c.args.state.now c.args.channel c.requires.coded in
    λ k d l. let e = c.requires.codes.channels k d l in omega (arith, e, at.from, at.to)

pub returns-clause-outputs : goal.returns-clause-outputs
returns-clause-outputs c =
    let s = c.args.state.now in
    let h = c.args.head.now in
    let i = c.args.channel - s.restart.min in
    let past = c.args.past.now in
    c.restore_by.ensures.outputs
    ∙ ap (λ (k : ResidualCoding). outputs_from 8 4 past (frames_by c.channel_at-coded.result.now k h.params i c.args.codes.now)) c.coding_at-coding.ensures.value
    ∙ ap (λ (k : ChannelState). outputs_from 8 4 past (frames_by k (coding_at s c.args.channel) h.params i c.args.codes.now)) c.channel_at-coded.ensures
    ∙ sym (ap (λ (fs : List Frame). outputs_from 8 4 past fs) (coded_frames s h c.args.channel c.args.codes.now c.requires.coded))

pub returns-clause-past : goal.returns-clause-past
returns-clause-past c =
    let s = c.args.state.now in
    let h = c.args.head.now in
    let i = c.args.channel - s.restart.min in
    let past = c.args.past.now in
    c.restore_by.ensures.past
    ∙ ap (λ (k : ResidualCoding). past_from 8 4 past (frames_by c.channel_at-coded.result.now k h.params i c.args.codes.now)) c.coding_at-coding.ensures.value
    ∙ ap (λ (k : ChannelState). past_from 8 4 past (frames_by k (coding_at s c.args.channel) h.params i c.args.codes.now)) c.channel_at-coded.ensures
    ∙ sym (ap (λ (fs : List Frame). past_from 8 4 past fs) (coded_frames s h c.args.channel c.args.codes.now c.requires.coded))
