use Rattle.mlp_params.proofs.InForceLaws.{one_step}
use Rattle.mlp_params.proofs.laws.law_in_force.Goals as goal

pub returns : goal.returns
returns c = one_step
