use Rattle.mlp_recover.proofs.Checks.{carries_check}
use Rattle.mlp_recover.proofs.laws.law_check.Goals as goal

pub returns : goal.returns
returns c = carries_check
