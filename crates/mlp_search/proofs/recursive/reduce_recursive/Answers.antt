use Rattle.std.proofs.Common.{◌≡◌, ◌<◌, ℤ, pos, neg_ℤ, List, [], ◌∷◌, length, drop, w32, arith, refl, sym, ap, ◌∙◌}
use Rattle.std.proofs.lemmas.Int.{to_z-of_z}
use Rattle.mlp_syntax.specs.declared.params.Filter.{Filter}
use Rattle.mlp_predict.specs.Prediction.{Past, Filters, residuals_of}
use Rattle.mlp_search.specs.declared.pair.Pair.{Pair}
use Rattle.mlp_search.specs.Candidates.{past_for}
use Rattle.mlp_search.proofs.RecursiveLaws.{small_fits, filters_are}
use Rattle.mlp_search.proofs.recursive.reduce_recursive.Goals as goal

pub returns-in-Some-clause-value : goal.returns-in-Some-clause-value
returns-in-Some-clause-value c =
    λ t samples is.
    let pair : Pair = c.args.pair.now in
    let past : Past = past_for c.args.number pair c.args.history.now in
    let fir_is : c.pair.inside.fir.now ≡ c.args.pair.now.fir = ap (λ (p : Pair). p.fir) c.pair.view_is in
    let iir_is : c.pair.inside.iir.now ≡ c.args.pair.now.iir = ap (λ (p : Pair). p.iir) c.pair.view_is in
    let half = c.if-not-takes_half.ensures in
    let coeffs : c.args.pair.now.iir.coeffs.items ≡ neg_ℤ (pos 2) ∷ [] = ap (λ (f : Filter 4). f.coeffs.items) (sym iir_is) ∙ half.coeffs refl in
    let shift : c.args.pair.now.fir.shift ≡ 2 = ap (λ (f : Filter 8). f.shift) (sym fir_is) ∙ half.shift refl in
    let fir : c.args.pair.now.fir.coeff_shift ≡ 0 = ap (λ (f : Filter 8). f.coeff_shift) (sym fir_is) ∙ half.fir refl in
    let iir : c.args.pair.now.iir.coeff_shift ≡ 0 = ap (λ (f : Filter 4). f.coeff_shift) (sym iir_is) ∙ half.iir refl in
    let seen = c.in-Some.ensures.seen pair (ap (λ (cs : List ℤ). length cs) coeffs) in
    let same : c.as_slice.result.now ≡ c.args.pair.now.fir.coeffs.items = c.as_slice.ensures.value ∙ ap (λ (f : Filter 8). f.coeffs.items) fir_is in
    let some : 0 < length c.args.pair.now.fir.coeffs.items = omega (arith, c.reduce_beside.ensures.some t, ap (λ (cs : List ℤ). length cs) same) in
    c.reduce_beside.ensures.value t past samples (drop 1 c.args.history.now.differences)
    (record {
      parts = record { eight = is.parts.eight; steps = is.parts.steps; small = is.parts.small; words = is.parts.words; high_parts = is.parts.high_parts; low_parts = is.parts.low_parts };
      near = is.near;
    })
    (seen ∙ ap (λ (g : ℤ). neg_ℤ g ∷ drop 1 c.args.history.now.differences) (sym (to_z-of_z w32 c.in-Some.excess (small_fits c.in-Some.excess c.in-Some.ensures.few))))
    ∙ ap (λ (cs : List ℤ). residuals_of (record { fir = cs; iir = neg_ℤ (pos 2) ∷ []; shift = 2 }) past c.args.step samples) same
    ∙ ap (λ (f : Filters). residuals_of f past c.args.step samples) (sym (filters_are pair shift fir iir coeffs some))
