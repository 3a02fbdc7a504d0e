use Rattle.std.proofs.Common.{◌∙◌, ◌<◌, ap, Some, length, arith}
use Rattle.std.proofs.lemmas.List.{get_or_default}
use Rattle.mlp_predict.specs.Prediction.{Past, zeros}
use Rattle.mlp_predict.specs.Outputs.{outputs_from, past_from}
use Rattle.mlp_params.proofs.RestartRanges.{ranges}
use Rattle.mlp_channels.specs.Channels.{block_frames}
use Rattle.mlp_channels.proofs.CodedLaws.{coded_from}
use Rattle.mlp_channels.proofs.ChannelLoop.{along_none, along_more, along_all}
use Rattle.mlp_channels.proofs.play.play_channels.Goals as goal

pub loop-channel-init : goal.loop-channel-init
loop-channel-init c = along_none c.args.state.now c.args.head.now c.args.codes.now c.args.predictors.now c.args.frames.now

pub bounds-predictors-channel : goal.bounds-predictors-channel
bounds-predictors-channel c = let r = ranges c.args.state.now.format c.args.state.now.restart c.requires.state.restart in omega (arith, r.at_most_7, c.loop-channel-test.true)

pub listed : goal.listed
listed c = let r = ranges c.args.state.now.format c.args.state.now.restart c.requires.state.restart in omega (arith, r.at_most_7, c.loop-channel-test.true, c.type_inv.predictors)

pub play_channel-requires-clause-coded : goal.play_channel-requires-clause-coded
play_channel-requires-clause-coded c = coded_from c.args.state.now c.loop-channel.channel (omega (arith, c.loop-channel.auto.channel)) (omega (arith, c.loop-channel-test.true))

pub loop-channel-preserved : goal.loop-channel-preserved
loop-channel-preserved c =
    let s = c.args.state.now in
    let r = ranges s.format s.restart c.requires.state.restart in
    let at = c.loop-channel.channel in
    let now = c.loop-channel.predictors in
    let within : at < length now = omega (arith, c.loop-channel.invariant.count, c.told-predictors, r.at_most_7, c.loop-channel-test.true) in
    let same = get_or_default now at c.index-predictors-channel.result (zeros 8 4) within in
    along_more s c.args.head.now c.args.codes.now at c.args.predictors.now now c.play_channel.new.past c.args.frames.now c.loop-channel.frames c.play_channel.new.frames c.loop-channel.invariant
    (record {
      channel = c.play_channel.ensures.channel ∙ ap (λ (p : Past). outputs_from 8 4 p (block_frames (Some s) c.args.head.now at c.args.codes.now)) same;
      others = c.play_channel.ensures.others;
      past = c.play_channel.ensures.past ∙ ap (λ (p : Past). past_from 8 4 p (block_frames (Some s) c.args.head.now at c.args.codes.now)) same;
    })
    (coded_from s at (omega (arith, c.loop-channel.auto.channel)) (omega (arith, c.loop-channel-test.true)))
    within

pub returns : goal.returns
returns c =
    along_all c.args.state.now c.args.head.now c.args.codes.now c.loop-channel.channel c.args.predictors.now c.loop-channel.predictors c.args.frames.now c.loop-channel.frames c.loop-channel.invariant
    (omega (arith, c.loop-channel-test.false))
