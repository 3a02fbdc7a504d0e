use Rattle.mlp_unit.proofs.Fewer.{next_allowed}
use Rattle.mlp_unit.proofs.laws.law_meets.Goals as goal

pub returns : goal.returns
returns c = next_allowed
