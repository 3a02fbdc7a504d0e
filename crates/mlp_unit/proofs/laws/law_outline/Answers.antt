use Rattle.mlp_unit.proofs.OutlineLaws.{one_outline}
use Rattle.mlp_unit.proofs.laws.law_outline.Goals as goal

pub returns : goal.returns
returns c = one_outline
