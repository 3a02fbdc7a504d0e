use Rattle.mlp_lossless.proofs.Owed.{all_given_back}
use Rattle.mlp_lossless.proofs.laws.law_lossless.Goals as goal

pub returns : goal.returns
returns c = all_given_back
