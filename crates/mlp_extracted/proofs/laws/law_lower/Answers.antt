use Rattle.mlp_extracted.proofs.Lower.{lower_units}
use Rattle.mlp_extracted.proofs.laws.law_lower.Goals as goal

pub returns : goal.returns
returns c = lower_units
