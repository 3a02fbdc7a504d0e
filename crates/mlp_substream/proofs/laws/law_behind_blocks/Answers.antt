use Rattle.mlp_substream.proofs.InForceLaws.{behind_more}
use Rattle.mlp_substream.proofs.laws.law_behind_blocks.Goals as goal

pub returns : goal.returns
returns c = λ place earlier heads. behind_more place heads earlier
