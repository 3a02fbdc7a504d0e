use Rattle.mlp_search.proofs.GivenLaws.{given_is_pair, candidate_allowed}
use Rattle.mlp_search.proofs.laws.law_given.Goals as goal

pub returns-clause-filters : goal.returns-clause-filters
returns-clause-filters c = λ force step samples d pair s there. given_is_pair force step samples d pair s there

pub returns-clause-allowed : goal.returns-clause-allowed
returns-clause-allowed c = candidate_allowed
