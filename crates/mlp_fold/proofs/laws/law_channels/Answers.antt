use Rattle.mlp_fold.proofs.ByStep.{channels_next, channels_top}
use Rattle.mlp_fold.proofs.laws.law_channels.Goals as goal

pub returns-clause-next : goal.returns-clause-next
returns-clause-next c = channels_next

pub returns-clause-top : goal.returns-clause-top
returns-clause-top c = channels_top
