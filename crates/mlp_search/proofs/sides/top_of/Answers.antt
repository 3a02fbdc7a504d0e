use Rattle.std.proofs.Common.{◌≡◌, ◌≤◌, ◌<◌, ℕ, ℤ, pos, negsuc, neg_ℤ, ◌-ℤ◌, ◌*ℤ◌, ◌≤ℤ◌, of_z, w16, w32, w64, arith, sym, subst, ap, ◌∙◌}
use Rattle.std.specs.Prelude.{FitsSigned, unsigned_abs}
use Rattle.std.specs.Int.{int_max}
use Rattle.std.proofs.lemmas.Int.{ints, clamps, to_z-of_z}
use Rattle.mlp_search.proofs.FoldSteps.{top_of_ends}
use Rattle.mlp_search.proofs.sides.top_of.Goals as goal

-- what is cast is the greater of both
cast_is : (c : goal.After-cast_unsigned) → c.cast_unsigned.result ≡ of_z w64 (int_max c.twice_from-above.result c.under_twice-below.result)
cast_is c =
    let above = to_z-of_z w64 c.twice_from-above.result (record { sfits = c.twice_from-above.type_inv }) in
    let below = to_z-of_z w64 c.under_twice-below.result (record { sfits = c.under_twice-below.type_inv }) in
    c.cast_unsigned.ensures ∙ ap (of_z w64) (to_z-of_z w64 c.max.result (record { sfits = c.max.type_inv })) ∙ ap (of_z w64) (rw (above, below) at c.max.ensures.value)

pub returns-clause-value : goal.returns-clause-value
returns-clause-value c =
    λ vs is none.
    let e = to_z-of_z w16 c.args.offset c.ranges.offset in
    let least : FitsSigned w32 c.args.survey.now.least = omega (arith, ints) in
    let greatest : FitsSigned w32 c.args.survey.now.greatest = omega (arith, ints) in
    let above = rw (e, to_z-of_z w32 c.args.survey.now.greatest greatest) at c.twice_from-above.ensures.value in
    let below = rw (e, to_z-of_z w32 c.args.survey.now.least least) at c.under_twice-below.ensures.value in
    cast_is c ∙ ap (of_z w64) (top_of_ends c.args.offset c.twice_from-above.result c.under_twice-below.result c.args.survey.now.least c.args.survey.now.greatest vs above below is.least is.greatest none)

few : (a b v w : ℤ) → a ≡ pos 2 *ℤ v → b ≡ neg_ℤ (pos 1) -ℤ pos 2 *ℤ w → w ≤ℤ v → unsigned_abs a ≤ 8589934593 → unsigned_abs b ≤ 8589934593 → of_z w64 (int_max a b) < 17179869184
few a b v w above below le af bf = small (int_max a b) (omega (arith, ints, clamps, above, below, le)) (omega (arith, ints, clamps, af, bf))
  where
    small : (z : ℤ) → pos 0 ≤ℤ z → unsigned_abs z < 17179869184 → of_z w64 z < 17179869184
    small (pos n) from h = h
    small (negsuc n) from h = absurd (omega (arith, ints, from))

pub returns-clause-few : goal.returns-clause-few
returns-clause-few c =
    let e = to_z-of_z w16 c.args.offset c.ranges.offset in
    let least : FitsSigned w32 c.args.survey.now.least = omega (arith, ints) in
    let greatest : FitsSigned w32 c.args.survey.now.greatest = omega (arith, ints) in
    let above = rw (e, to_z-of_z w32 c.args.survey.now.greatest greatest) at c.twice_from-above.ensures.value in
    let below = rw (e, to_z-of_z w32 c.args.survey.now.least least) at c.under_twice-below.ensures.value in
    let le : (c.args.survey.now.least -ℤ c.args.offset) ≤ℤ (c.args.survey.now.greatest -ℤ c.args.offset) = omega (arith, ints, c.requires) in
    subst (λ (n : ℕ). n < 17179869184) (sym (cast_is c))
    (few c.twice_from-above.result c.under_twice-below.result (c.args.survey.now.greatest -ℤ c.args.offset) (c.args.survey.now.least -ℤ c.args.offset) above below le
    (omega (arith, c.twice_from-above.ensures.few)) (omega (arith, c.under_twice-below.ensures.few)))
