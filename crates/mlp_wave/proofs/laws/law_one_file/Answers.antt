use Rattle.mlp_wave.proofs.OneFile.{has_one_file}
use Rattle.mlp_wave.proofs.laws.law_one_file.Goals as goal

pub returns : goal.returns
returns c = has_one_file
