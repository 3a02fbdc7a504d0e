use Rattle.mlp_unit.proofs.FirstSyncs.{alike_layouts}
use Rattle.mlp_unit.proofs.laws.law_alike.Goals as goal

pub returns : goal.returns
returns c = alike_layouts
