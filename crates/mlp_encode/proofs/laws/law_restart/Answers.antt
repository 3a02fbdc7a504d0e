use Rattle.mlp_encode.proofs.Ends.{end_is, restart_lawful}
use Rattle.mlp_encode.proofs.laws.law_restart.Goals as goal

pub returns-clause-restart : goal.returns-clause-restart
returns-clause-restart c = restart_lawful

pub returns-clause-terminator : goal.returns-clause-terminator
returns-clause-terminator c = end_is
