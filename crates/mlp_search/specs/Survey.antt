-- What one pass over values tells of them.
use Rattle.std.specs.Prelude.{◌≡◌, ◌≤◌, List, ℤ}
use Rattle.mlp_search.specs.declared.survey.Survey.{Survey}
use Rattle.mlp_search.specs.Candidates.{least_of, greatest_of}
use Rattle.mlp_search.specs.Folded.{negatives, sizes}

-- their least and greatest, how many are negative, and no more than their sizes
pub record IsSurvey (vs : List ℤ) (s : Survey) : Type 0 where
  pub least : s.least ≡ least_of vs
  pub greatest : s.greatest ≡ greatest_of vs
  pub negatives : s.negatives ≡ negatives vs
  pub sizes : s.sizes ≤ sizes vs
  pub few : s.sizes ≤ 2013265920
