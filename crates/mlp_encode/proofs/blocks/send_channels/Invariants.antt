use Rattle.mlp_encode.proofs.SentChannels.{Sending}
use Rattle.mlp_encode.proofs.blocks.send_channels.Given as goal

abbrev pub invariant-loop-channel : goal.invariant-loop-channel
invariant-loop-channel l = Sending l.substream l.state l.steps l.filters l.frames l.initial.pasts l.channel l.given.items l.codes l.pasts
