use Rattle.mlp_check.proofs.Reports.{check_has_one}
use Rattle.mlp_check.proofs.laws.law_one_answer.Goals as goal

pub returns : goal.returns
returns c = check_has_one
