use Rattle.mlp_unit.proofs.Fewer.{fewer_meets}
use Rattle.mlp_unit.proofs.laws.law_fewer.Goals as goal

pub returns : goal.returns
returns c = fewer_meets
