use Rattle.mlp_lossless.proofs.Owed.{all_arrive}
use Rattle.mlp_lossless.proofs.laws.law_fits.Goals as goal

pub returns : goal.returns
returns c = all_arrive
