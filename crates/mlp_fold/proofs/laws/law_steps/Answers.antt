use Rattle.mlp_fold.proofs.ByStep.{by_step}
use Rattle.mlp_fold.proofs.laws.law_steps.Goals as goal

pub returns : goal.returns
returns c = by_step
