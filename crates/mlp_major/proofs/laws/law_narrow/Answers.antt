use Rattle.mlp_major.proofs.SyncRules.{narrows_well}
use Rattle.mlp_major.proofs.laws.law_narrow.Goals as goal

pub returns : goal.returns
returns c = narrows_well
