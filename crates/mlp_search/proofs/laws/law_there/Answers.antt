use Rattle.mlp_search.proofs.ChosenLaws.{chosen_least, chosen_cheap}
use Rattle.mlp_search.proofs.laws.law_there.Goals as goal

pub returns-clause-least : goal.returns-clause-least
returns-clause-least c = λ force past step filters samples s le h whole fir iir. chosen_least force past step filters samples s le h whole fir iir

pub returns-clause-cheap : goal.returns-clause-cheap
returns-clause-cheap c = λ force past step filters samples s le h whole fir iir. chosen_cheap force past step filters samples s le h whole fir iir
