use Rattle.mlp_unit.proofs.Fewer.{rewritten_meets}
use Rattle.mlp_unit.proofs.laws.law_rewritten.Goals as goal

pub returns : goal.returns
returns c = rewritten_meets
