use Rattle.std.proofs.Common.{◌≡◌, ◌+◌, ◌*◌, ◌≤◌, map, drop}
use Rattle.mlp_arith.specs.Words.{floor_by}
use Rattle.mlp_search.specs.Candidates.{least_from, least_of, greatest_from, greatest_of}
use Rattle.mlp_search.specs.Folded.{negatives, sizes}
use Rattle.mlp_search.proofs.survey.survey_of.Given as goal

abbrev pub invariant-loop-residual : goal.invariant-loop-residual
invariant-loop-residual l = record {
  least : least_from l.least (map (floor_by l.step) (drop l.residual-index l.residuals)) ≡ least_of (map (floor_by l.step) l.residuals);
  greatest : greatest_from l.greatest (map (floor_by l.step) (drop l.residual-index l.residuals)) ≡ greatest_of (map (floor_by l.step) l.residuals);
  negatives : l.negatives + negatives (map (floor_by l.step) (drop l.residual-index l.residuals)) ≡ negatives (map (floor_by l.step) l.residuals);
  sizes : l.sizes + sizes (map (floor_by l.step) (drop l.residual-index l.residuals)) ≤ sizes (map (floor_by l.step) l.residuals);
  few_negatives : l.negatives ≤ l.residual-index;
  few : l.sizes ≤ 12582912 * l.residual-index;
}
