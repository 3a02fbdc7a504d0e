use Rattle.mlp_answers.proofs.SomeAnswer.{has_one_answer}
use Rattle.mlp_extract.specs.Extracting.{extracting}
use Rattle.mlp_extract.proofs.ExtractFollows.{extracting_is}
use Rattle.mlp_extract.proofs.laws.law_one_answer.Goals as goal

pub returns : goal.returns
returns c = λ k all. has_one_answer (extracting k) (extracting_is k) all
