use Rattle.std.proofs.Common.{◌<◌, ◌≤◌, ◌∙◌, List, [], length, get_or, refl, sym, ap, subst, arith}
use Rattle.std.specs.Prelude.{All}
use Rattle.std.proofs.lemmas.List.{get_or_default}
use Rattle.arrayvec.specs.ArrayVec.{array_vec_len}
use Rattle.mlp_syntax.specs.declared.segment.FrameCode.{FrameCode}
use Rattle.mlp_params.specs.declared.state.ChannelState.{ChannelState}
use Rattle.mlp_params.specs.InForce.{restarted_channel}
use Rattle.mlp_predict.specs.Prediction.{zeros}
use Rattle.mlp_fold.specs.Substreams.{first_channel, last_channel}
use Rattle.mlp_encode.proofs.SentCodes.{codes_room}
use Rattle.mlp_encode.proofs.SentChannels.{sent_below, count_below, codes_in_count, last_most, sending_more, past_there}
use Rattle.mlp_encode.proofs.blocks.send_channels.Goals as goal

pub send_at-params-requires-clause-count : goal.send_at-params-requires-clause-count
send_at-params-requires-clause-count c =
    let below = sent_below c.args.substream c.args.state.now c.args.steps.now c.args.filters c.args.frames.now c.args.pasts.now c.loop-channel.channel in
    sym (ap (λ (cs : List FrameCode). length cs) c.loop-channel.invariant.codes_are ∙ codes_in_count [] below c.args.frames.now)

pub send_at-params-requires-clause-room : goal.send_at-params-requires-clause-room
send_at-params-requires-clause-room c =
    let j = c.args.substream in
    let below = sent_below j c.args.state.now c.args.steps.now c.args.filters c.args.frames.now c.args.pasts.now c.loop-channel.channel in
    let most = last_most j in
    let from : first_channel j ≤ c.loop-channel.channel = omega (arith, c.loop-channel.auto.channel, c.from-first.ensures, c.first_channel.ensures) in
    let within : c.loop-channel.channel < length c.args.pasts.now = omega (arith, c.told-pasts, c.loop-channel.invariant.count_is, most, c.loop-channel-test.true, c.from-end.ensures, c.last_channel.ensures) in
    let count = count_below j c.args.state.now c.args.steps.now c.args.filters c.args.frames.now c.args.pasts.now c.loop-channel.channel from within in
    subst (λ (cs : List FrameCode). All (λ f. array_vec_len f.codes < 8) cs) (sym c.loop-channel.invariant.codes_are)
    (codes_room c.args.frames.now below (omega (arith, count, most, c.loop-channel-test.true, c.from-end.ensures, c.last_channel.ensures)))

pub loop-channel-preserved : goal.loop-channel-preserved
loop-channel-preserved c =
    let j = c.args.substream in
    let s = c.args.state.now in
    let k = c.loop-channel.channel in
    let old = c.args.pasts.now in
    let now = c.loop-channel.pasts in
    let most = last_most j in
    let from : first_channel j ≤ k = omega (arith, c.loop-channel.auto.channel, c.from-first.ensures, c.first_channel.ensures) in
    let to : k ≤ last_channel j = omega (arith, c.loop-channel-test.true, c.from-end.ensures, c.last_channel.ensures) in
    let below : k < length old = omega (arith, c.told-pasts, c.loop-channel.invariant.count_is, most, to) in
    let within : k < length now = omega (arith, below, c.loop-channel.invariant.count_is) in
    let there : k < length s.channels.items = omega (arith, to, c.requires.codable.count) in
    sending_more j s c.args.steps.now c.args.filters c.args.frames.now old k from below c.loop-channel.given.items c.push.new.self.items c.loop-channel.codes c.send_at-params.new.codes now
    c.index-deref-channel.result (get_or now k c.index-pasts-channel.result) c.send_at-params.new.past (get_or c.args.steps.now k 0) c.send_at-params.result
    (c.index-deref-channel.is ∙ ap (λ (xs : List ChannelState). get_or xs k c.index-deref-channel.result) c.deref.ensures.0 ∙ get_or_default s.channels.items k c.index-deref-channel.result restarted_channel there)
    (get_or_default now k c.index-pasts-channel.result (zeros 8 4) within
    ∙ past_there j s c.args.steps.now c.args.filters c.args.frames.now old k from below c.loop-channel.given.items c.loop-channel.codes now (zeros 8 4) c.loop-channel.invariant)
    refl c.send_at-params.ensures.given c.send_at-params.ensures.codes c.send_at-params.ensures.past c.push.ensures.items c.loop-channel.invariant
