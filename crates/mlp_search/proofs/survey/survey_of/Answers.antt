use Rattle.std.proofs.Common.{◌≡◌, ◌+◌, ◌≤◌, ℤ, pos, to_z, of_z, map, drop, get_or, arith, ◌∙◌, ap, subst}
use Rattle.std.specs.Prelude.{unsigned_abs}
use Rattle.std.specs.Int.{w32, int_min, int_max}
use Rattle.std.proofs.lemmas.Int.{to_z-of_z}
use Rattle.mlp_arith.specs.Words.{floor_by}
use Rattle.mlp_search.specs.Candidates.{least_from, greatest_from}
use Rattle.mlp_search.specs.Folded.{negative}
use Rattle.mlp_search.proofs.Middles.{least_next, greatest_next}
use Rattle.mlp_search.proofs.SurveyLaws.{negatives_next, sizes_next}
use Rattle.mlp_search.proofs.survey.survey_of.Goals as goal

pub loop-residual-preserved : goal.loop-residual-preserved
loop-residual-preserved c =
    let value : to_z w32 (of_z w32 c.in_steps-value.result) ≡ floor_by c.args.step (get_or c.args.residuals.now c.loop-residual.residual-index (pos 0)) =
    to_z-of_z w32 c.in_steps-value.result (record { sfits = c.in_steps-value.type_inv }) ∙ c.in_steps-value.ensures
    in
    let least : to_z w32 (of_z w32 c.min-least.result) ≡ int_min (to_z w32 c.loop-residual.least-bits) (floor_by c.args.step (get_or c.args.residuals.now c.loop-residual.residual-index (pos 0))) =
    to_z-of_z w32 c.min-least.result (record { sfits = c.min-least.type_inv })
    ∙ c.min-least.ensures.value
    ∙ ap (int_min (to_z w32 c.loop-residual.least-bits)) value
    in
    let greatest : to_z w32 (of_z w32 c.max-greatest.result) ≡ int_max (to_z w32 c.loop-residual.greatest-bits) (floor_by c.args.step (get_or c.args.residuals.now c.loop-residual.residual-index (pos 0))) =
    to_z-of_z w32 c.max-greatest.result (record { sfits = c.max-greatest.type_inv })
    ∙ c.max-greatest.ensures.value
    ∙ ap (int_max (to_z w32 c.loop-residual.greatest-bits)) value
    in
    record {
      least =
          ap (λ (v : ℤ). least_from v (map (floor_by c.args.step) (drop (c.loop-residual.residual-index + 1) c.args.residuals.now))) least
          ∙ least_next (floor_by c.args.step) c.args.residuals.now c.loop-residual.residual-index _ _ c.loop-residual-test.true c.loop-residual.invariant.least;
      greatest =
          ap (λ (v : ℤ). greatest_from v (map (floor_by c.args.step) (drop (c.loop-residual.residual-index + 1) c.args.residuals.now))) greatest
          ∙ greatest_next (floor_by c.args.step) c.args.residuals.now c.loop-residual.residual-index _ _ c.loop-residual-test.true c.loop-residual.invariant.greatest;
      negatives =
          negatives_next (floor_by c.args.step) c.args.residuals.now c.loop-residual.residual-index c.loop-residual.negatives c.negative-negatives.result _ c.loop-residual-test.true
          (c.negative-negatives.ensures.value ∙ ap negative value) c.loop-residual.invariant.negatives;
      sizes =
          sizes_next (floor_by c.args.step) c.args.residuals.now c.loop-residual.residual-index c.loop-residual.sizes c.size-sizes.result _ c.loop-residual-test.true
          (subst (λ (z : ℤ). c.size-sizes.result ≤ unsigned_abs z) value c.size-sizes.ensures.value) c.loop-residual.invariant.sizes;
      few_negatives = omega (arith, c.loop-residual.invariant.few_negatives, c.negative-negatives.ensures.few);
      few = omega (arith, c.loop-residual.invariant.few, c.size-sizes.ensures.few);
    }
