use Rattle.mlp_unit.proofs.UnitRules.{fits_text}
use Rattle.mlp_unit.proofs.laws.law_text.Goals as goal

pub returns : goal.returns
returns c = fits_text
