use Rattle.mlp_lossless.proofs.Owed.{all_in_time}
use Rattle.mlp_lossless.proofs.laws.law_timed.Goals as goal

pub returns : goal.returns
returns c = all_in_time
