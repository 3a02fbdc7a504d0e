use Rattle.mlp_channels.proofs.FrameLaws.{channel_frames-same, channel_frames-fresh}
use Rattle.mlp_channels.proofs.laws.law_same_frames.Goals as goal

pub returns-clause-place : goal.returns-clause-place
returns-clause-place c = λ place other force ch heads codes a b. channel_frames-same place ch other force heads codes a b

pub returns-clause-fresh : goal.returns-clause-fresh
returns-clause-fresh c = λ place f g ch heads codes playable. channel_frames-fresh place ch f g heads codes playable
