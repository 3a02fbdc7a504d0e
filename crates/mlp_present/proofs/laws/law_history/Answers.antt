use Rattle.mlp_present.proofs.Histories.{holds_units, goes_on}
use Rattle.mlp_present.proofs.laws.law_history.Goals as goal

pub returns : goal.returns
returns c = record { holds = holds_units; goes_on = goes_on }
