use Rattle.mlp_answers.proofs.SomeAnswer.{has_one_answer}
use Rattle.mlp_cut.specs.Cutting.{cutting}
use Rattle.mlp_cut.proofs.CutterLaws.{cutting_is}
use Rattle.mlp_cut.proofs.laws.law_one_answer.Goals as goal

pub returns : goal.returns
returns c = λ f n all. has_one_answer (cutting f n) (cutting_is f n) all
