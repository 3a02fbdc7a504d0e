use Rattle.mlp_unit.proofs.FirstSyncs.{could_be_first}
use Rattle.mlp_unit.proofs.laws.law_first.Goals as goal

pub returns : goal.returns
returns c = could_be_first
