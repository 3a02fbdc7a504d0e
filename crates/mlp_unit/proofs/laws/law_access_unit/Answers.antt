use Rattle.mlp_unit.proofs.UnitLaws.{access_unit_is}
use Rattle.mlp_unit.proofs.laws.law_access_unit.Goals as goal

pub returns : goal.returns
returns c = access_unit_is
