use Rattle.mlp_answers.proofs.SomeAnswer.{has_one_answer}
use Rattle.mlp_retime.specs.Retiming.{retiming}
use Rattle.mlp_retime.proofs.RetimeFollows.{retiming_is}
use Rattle.mlp_retime.proofs.laws.law_one_answer.Goals as goal

pub returns : goal.returns
returns c = λ all. has_one_answer retiming retiming_is all
