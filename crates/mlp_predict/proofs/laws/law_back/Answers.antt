use Rattle.mlp_predict.proofs.Sequences.{outputs_of-residuals_of}
use Rattle.mlp_predict.proofs.laws.law_back.Goals as goal

pub returns : goal.returns
returns c = outputs_of-residuals_of
