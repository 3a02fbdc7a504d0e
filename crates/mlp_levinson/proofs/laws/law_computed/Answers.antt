use Rattle.mlp_levinson.proofs.Bests.{there, best}
use Rattle.mlp_levinson.proofs.laws.law_computed.Goals as goal

pub returns-clause-there : goal.returns-clause-there
returns-clause-there c = there

pub returns-clause-best : goal.returns-clause-best
returns-clause-best c = best
