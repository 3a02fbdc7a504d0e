use Rattle.mlp_lossless.proofs.Owed.{all_chosen}
use Rattle.mlp_lossless.proofs.laws.law_sent.Goals as goal

pub returns : goal.returns
returns c = all_chosen
