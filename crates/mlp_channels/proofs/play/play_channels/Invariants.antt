use Rattle.mlp_channels.proofs.ChannelLoop.{Along}
use Rattle.mlp_channels.proofs.play.play_channels.Given as goal

abbrev pub invariant-loop-channel : goal.invariant-loop-channel
invariant-loop-channel l = Along l.state l.head l.codes l.channel l.initial.predictors l.predictors l.initial.frames l.frames
