-- Filters that can be written can be used.
use Rattle.std.proofs.Common.{◌≡◌, ℕ, zero, suc, ◌+◌, ◌-◌, ◌*◌, ◌/◌, ◌<◌, ◌≤◌, ◌^◌, ℤ, pos, negsuc, ◌*ℤ◌, Bool, true, false, List, [], ◌∷◌, arith, refl, sym, ◌∙◌, ap, subst, pow-suc}
use Rattle.std.specs.Prelude.{All, ◌==◌, nat_lt, nat_le, ◌&&◌}
use Rattle.std.proofs.lemmas.Int.{ints}
use Rattle.std.proofs.lemmas.Bool.{leb-true, ltb-true, and_parts}
use Rattle.std.proofs.lemmas.List.Elements.{All-cons}
use Rattle.std.proofs.Math.Nat.{mul-le-mul_right}
use Rattle.std.proofs.lemmas.Nat.{pow-add}
use Rattle.std.proofs.Math.Pow.{pow_mono, pow_pos}
use Rattle.mlp_syntax.specs.declared.params.Filter.{Filter}
use Rattle.mlp_bits.specs.Signed.{unsigned, HasBits}
use Rattle.mlp_layout.specs.Layout.{number_of, seen, ruled, part, made, item}
use Rattle.mlp_layout.specs.Combined.{signed_of, times}
use Rattle.mlp_layout.specs.Allowed.{Allowed}
use Rattle.mlp_layout.proofs.RuleReading.{rule_holds}
use Rattle.mlp_layout.proofs.SignedLaws.{stands_for}
use Rattle.mlp_params.specs.Filters.{order_of, absent, widths, filter, behind_order}
use Rattle.mlp_predict.specs.Prediction.{IsCoefficient}
use Rattle.mlp_predict.specs.Filters.{scaled, IsFilter, AreFilters}
use Rattle.mlp_search.specs.declared.pair.Pair.{Pair}
use Rattle.mlp_search.specs.Given.{IsPair}
use Rattle.mlp_search.proofs.FilterLaws.{absent_is_absent, behind_allowed}

-- a field of w bits times 2^s has 16 bits
stretched : (w s : ℕ) → 0 < w → w + s ≤ 16 → 2 ^ (w - 1) * 2 ^ s ≤ 2 ^ 15
stretched zero s some sum = absurd (omega arith)
stretched (suc w) s some sum =
    let same : suc w - 1 ≡ w = omega arith in
    let joined : 2 ^ w * 2 ^ s ≡ 2 ^ (w + s) = sym (pow-add 2 w s) in
    let most : 2 ^ (w + s) ≤ 2 ^ 15 = let m : w + s ≤ 15 = omega (arith, sum) in pow_mono m in
    subst (λ (k : ℕ). 2 ^ k * 2 ^ s ≤ 2 ^ 15) (sym same) (omega (arith, joined, most))

halved : (w : ℕ) → 0 < w → 2 ^ w / 2 ≡ 2 ^ (w - 1)
halved zero some = absurd (omega arith)
halved (suc w) some =
    let same : suc w - 1 ≡ w = omega arith in
    let two : 2 ^ suc w ≡ 2 ^ w * 2 = pow-suc 2 w in
    let half : 2 ^ suc w / 2 ≡ 2 ^ w = omega (arith, two) in
    half ∙ sym (ap (λ (k : ℕ). 2 ^ k) same)

value_small : (w s : ℕ) (z : ℤ) → 0 < w → w + s ≤ 16 → HasBits w z → IsCoefficient (z *ℤ pos (2 ^ s))
value_small w s (pos n) some sum h =
    let most = stretched w s some sum in
    let le : suc n * 2 ^ s ≤ 2 ^ (w - 1) * 2 ^ s = mul-le-mul_right (2 ^ s) (omega (arith, h)) in
    let one : 0 < 2 ^ s = pow_pos s in
    let is : suc n * 2 ^ s ≡ n * 2 ^ s + 2 ^ s = grind arith in
    record { low = omega (arith, ints); high = omega (arith, ints, le, most, one, is) }
value_small w s (negsuc n) some sum h =
    let most = stretched w s some sum in
    let le : suc n * 2 ^ s ≤ 2 ^ (w - 1) * 2 ^ s = mul-le-mul_right (2 ^ s) (omega (arith, h, halved w some)) in
    record { low = omega (arith, ints, le, most); high = omega (arith, ints, le, most) }

field_small : (w s : ℕ) (z : ℤ) → 0 < w → w + s ≤ 16 → (signed_of w).Fits z → IsCoefficient (z *ℤ pos (2 ^ s))
unfolding signed_of seen number_of
field_small w s z some sum fits = value_small w s z some sum (stands_for w (unsigned w z) z fits)

fields_small : (w s n : ℕ) (zs : List ℤ) → 0 < w → w + s ≤ 16 → (times n (signed_of w)).Fits zs → All IsCoefficient (scaled s zs)
unfolding times item made
fields_small w s n [] some sum fits = λ i d l. absurd (omega arith)
fields_small w s zero (z ∷ zs) some sum fits = absurd (let e = fits in cc)
fields_small w s (suc n) (z ∷ zs) some sum fits = All-cons IsCoefficient (z *ℤ pos (2 ^ s)) (scaled s zs) (field_small w s z some sum fits.0) (fields_small w s n zs some sum fits.1)

behind_usable : (n : ℕ) (f : Filter n) → Allowed (behind_order n false (order_of f)) f → IsFilter f
unfolding part ruled number_of widths
behind_usable n f a =
    let h = a.fits in
    let wide = and_parts (nat_lt 0 f.coeff_bits) (nat_le f.coeff_bits 16) (rule_holds (nat_lt 0 f.coeff_bits && nat_le f.coeff_bits 16) 0 a.meets.1.0.0.0.1) in
    let sum : f.coeff_bits + f.coeff_shift ≤ 16 = leb-true (f.coeff_bits + f.coeff_shift) 16 (rule_holds (nat_le (f.coeff_bits + f.coeff_shift) 16) 0 a.meets.1.0.1) in
    record {
      shift = omega (arith, h.0);
      coeff_shift = omega (arith, h.1.0.1.0);
      coefficients = fields_small f.coeff_bits f.coeff_shift (order_of f) f.coeffs.items (ltb-true 0 f.coeff_bits wide.0) sum h.1.1.0;
    }

absent_usable : (n : ℕ) → IsFilter (absent {n = n})
absent_usable n = record { shift = omega arith; coeff_shift = omega arith; coefficients = λ i d l. absurd (omega arith) }

pub usable : (n : ℕ) (f : Filter n) → Allowed (filter n false) f → IsFilter f
usable n f a = pick (order_of f == 0) refl
  where
    pick : (t : Bool) → (order_of f == 0) ≡ t → IsFilter f
    pick true e = subst (λ (g : Filter n). IsFilter g) (sym (absent_is_absent n false f a e)) (absent_usable n)
    pick false e = behind_usable n f (behind_allowed n false f a e)

pub pair_usable : (pair : Pair) → IsPair pair → AreFilters pair.fir pair.iir
pair_usable pair p = record { fir_filter = usable 8 pair.fir p.fir; iir_filter = usable 4 pair.iir p.iir }
