use Rattle.std.proofs.Common.{rules, ◌≡◌, ℤ, pos, neg_ℤ, List, [], ◌∷◌, get_or, w32, arith, sym, ap, ◌∙◌}
use Rattle.std.proofs.lemmas.Int.{to_z-of_z}
use Rattle.mlp_predict.specs.Prediction.{residuals_of}
use Rattle.mlp_search.proofs.RecursiveLaws.{one_item, two_items}
use Rattle.mlp_search.proofs.recursive.reduce_beside.Goals as goal

pub returns-then-coeffs-eq4-clause-value : goal.returns-then-coeffs-eq4-clause-value
returns-then-coeffs-eq4-clause-value c =
    λ t past samples es is e.
    let first : get_or c.args.coeffs.now 0 (pos 0) ≡ pos 4 = search rules in
    c.put_halved.ensures.value past samples es is (e ∙ ap (λ (g : ℤ). neg_ℤ g ∷ es) (sym (to_z-of_z w32 c.args.excess c.ranges.excess)))
    ∙ ap (λ (cs : List ℤ). residuals_of (record { fir = cs; iir = neg_ℤ (pos 2) ∷ []; shift = 2 }) past c.args.step samples) (sym (one_item c.args.coeffs.now (pos 4) (omega arith) first))

pub returns-clause-value : goal.returns-clause-value
returns-clause-value c =
    λ t past samples es is e.
    let first : get_or c.args.coeffs.now 0 (pos 0) ≡ pos 8 = search rules in
    let second : get_or c.args.coeffs.now 1 (pos 0) ≡ neg_ℤ (pos 4) = search rules in
    c.put_halved-2.ensures.value past samples es is (e ∙ ap (λ (g : ℤ). neg_ℤ g ∷ es) (sym (to_z-of_z w32 c.args.excess c.ranges.excess)))
    ∙ ap (λ (cs : List ℤ). residuals_of (record { fir = cs; iir = neg_ℤ (pos 2) ∷ []; shift = 2 }) past c.args.step samples)
    (sym (two_items c.args.coeffs.now (pos 8) (neg_ℤ (pos 4)) (omega arith) first second))
