use Rattle.mlp_channels.proofs.HeadLaws.{channels_kept, channels_restarted}
use Rattle.mlp_channels.proofs.laws.law_coded.Goals as goal

pub returns-clause-kept : goal.returns-clause-kept
returns-clause-kept c = λ place force ch heads codes playable. channels_kept place force heads codes ch playable

pub returns-clause-restarted : goal.returns-clause-restarted
returns-clause-restarted c = λ place due force ch h heads codes r playable e. channels_restarted place due force h heads codes ch r playable e
