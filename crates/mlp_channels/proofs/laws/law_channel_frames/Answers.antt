use Rattle.mlp_channels.proofs.FrameLaws.{all_within, length-channel_frames, channel_frames-append}
use Rattle.mlp_channels.proofs.laws.law_channel_frames.Goals as goal

pub returns-clause-within : goal.returns-clause-within
returns-clause-within c = λ place force due ch heads codes ok fits playable. all_within place ok ch force due heads codes fits playable

pub returns-clause-count : goal.returns-clause-count
returns-clause-count c = λ place force due ch heads codes playable coded. length-channel_frames place ch force due heads codes playable coded

pub returns-clause-join : goal.returns-clause-join
returns-clause-join c = λ place force due ch first rest codes later playable. channel_frames-append place ch force due first rest codes later playable
