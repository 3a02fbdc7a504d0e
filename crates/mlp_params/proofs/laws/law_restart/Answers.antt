use Rattle.mlp_params.proofs.RestartLaws.{restart_is}
use Rattle.mlp_params.proofs.laws.law_restart.Goals as goal

pub returns : goal.returns
returns c = restart_is
