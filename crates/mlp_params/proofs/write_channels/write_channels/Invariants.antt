use Rattle.std.proofs.Common.{drop}
use Rattle.mlp_layout.proofs.WritingLaws.{SoFar}
use Rattle.mlp_layout.proofs.WritingLoops.{text}
use Rattle.mlp_params.proofs.WritingChannels.{any_channel}
use Rattle.mlp_params.proofs.write_channels.write_channels.Given as goal

abbrev pub invariant-loop-parameters : goal.invariant-loop-parameters
invariant-loop-parameters l = SoFar l.fn.w l.w (text (any_channel l.flags) (drop l.parameters-index l.channels)) (text (any_channel l.flags) l.channels)
