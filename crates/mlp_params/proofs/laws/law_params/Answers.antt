use Rattle.mlp_params.proofs.ParameterLaws.{params_is}
use Rattle.mlp_params.proofs.laws.law_params.Goals as goal

pub returns : goal.returns
returns c = params_is
