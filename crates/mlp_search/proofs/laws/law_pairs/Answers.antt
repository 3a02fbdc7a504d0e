use Rattle.mlp_search.proofs.PairLaws.{pair_is}
use Rattle.mlp_search.proofs.UsableFilters.{pair_usable}
use Rattle.mlp_search.proofs.laws.law_pairs.Goals as goal

pub returns-clause-written : goal.returns-clause-written
returns-clause-written c = pair_is

pub returns-clause-usable : goal.returns-clause-usable
returns-clause-usable c = pair_usable
