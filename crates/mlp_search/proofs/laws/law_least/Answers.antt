use Rattle.mlp_search.specs.Cost.{cost_of}
use Rattle.mlp_search.specs.Least.{middle_for}
use Rattle.mlp_search.proofs.Ranks.{one_least}
use Rattle.mlp_search.proofs.CandidateLaws.{is_cost}
use Rattle.mlp_search.proofs.laws.law_least.Goals as goal

pub returns : goal.returns
returns c = λ force past step filters samples d e h k. one_least (cost_of force past step filters samples) (middle_for force past step samples) (is_cost force past step filters samples) d e h k
