use Rattle.mlp_params.proofs.RestartLaws.{allowed_in_place}
use Rattle.mlp_params.proofs.ParameterLaws.{params_is}
use Rattle.mlp_params.proofs.parameters.read_params_into.Goals as goal

pub returns-clause-allowed : goal.returns-clause-allowed
returns-clause-allowed c = allowed_in_place (params_is c.args.state.now) c.args.r.now c.read_all.new.r c.read_all.new.out c.read_all.result c.place-first.ensures.within c.read_all.ensures
