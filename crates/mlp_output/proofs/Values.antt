-- What the rules say of the values of lists, and of a row's coefficients.
use Rattle.std.proofs.Common.{◌≡◌, ℕ, zero, suc, ◌+◌, ◌-◌, ◌*◌, ◌^◌, ◌<◌, ◌≤◌, true, List, [], ◌∷◌, length, ℤ, pos, negsuc, ◌*ℤ◌, Option, Some, None, sym, ap, ◌∙◌, arith, pow-suc}
use Rattle.std.specs.Prelude.{All}
use Rattle.std.proofs.Math.Nat.{mul-le-mul_left}
use Rattle.std.proofs.Math.Pow.{pow_mono, pow-add}
use Rattle.std.proofs.lemmas.Int.{ints}
use Rattle.std.proofs.lemmas.Bool.{ltb-true}
use Rattle.std.proofs.lemmas.List.Elements.{All-nil, All-cons, All-same}
use Rattle.arrayvec.specs.ArrayVec.{ArrayVec}
use Rattle.mlp_bits.specs.Signed.{HasBits, unsigned}
use Rattle.mlp_layout.specs.Layout.{Layout, number_of, seen, ruled, part, made, item}
use Rattle.mlp_layout.specs.Combined.{signed_of, group, times, listed}
use Rattle.mlp_layout.specs.Allowed.{Allowed}
use Rattle.mlp_layout.proofs.RuleReading.{rule_holds}
use Rattle.mlp_layout.proofs.CombinedLaws.{times_count}
use Rattle.mlp_layout.proofs.SignedLaws.{stands_for}
use Rattle.mlp_layout.proofs.WritingGroups.{some_allowed}
use Rattle.mlp_params.specs.Parameters.{output_shift}
use Rattle.mlp_predict.specs.Prediction.{IsCoefficient}
use Rattle.mlp_matrix.specs.Matrix.{weight, weights_of}

-- ---- lists

pub each_allowed : {A : Type 0} (P : A → Type 0) (l : Layout A) → ((x : A) → Allowed l x → P x) → (n : ℕ) (xs : List A) → (times n l).Fits xs → (times n l).Meets xs → All P xs
unfolding times item made
each_allowed P l is zero xs fits meets = All-same P xs [] fits (All-nil P)
each_allowed P l is (suc n) [] fits meets = absurd fits
each_allowed P l is (suc n) (x ∷ xs) fits meets = All-cons P x xs (is x (record { fits = fits.0; meets = meets.0 })) (each_allowed P l is n xs fits.1 meets.1)

pub listed_count : {A : Type 0} (n : ℕ) (l : Layout A) (v : ArrayVec A) → Allowed (listed n l) v → length v.items ≡ n
unfolding listed part
listed_count n l v a = times_count n l v.items a.fits.0

pub listed_each : {A : Type 0} (P : A → Type 0) (l : Layout A) → ((x : A) → Allowed l x → P x) → (n : ℕ) (v : ArrayVec A) → Allowed (listed n l) v → All P v.items
unfolding listed part
listed_each P l is n v a = each_allowed P l is n v.items a.fits.0 a.meets.0

-- ---- shifts and steps

pub shift_most : (n : ℕ) → Allowed output_shift n → n ≤ 7
unfolding ruled
shift_most n a = let lt : n < 8 = ltb-true n 8 (rule_holds _ 0 a.meets.1) in omega arith

pub step_most : (n : ℕ) → Allowed (number_of 4) n → n < 16
unfolding number_of
step_most n a = a.fits

-- ---- coefficients

-- a value of `frac` + 2 signed bits times 2^(14 - frac) has 16
scaled_small : (frac : ℕ) (z : ℤ) → frac ≤ 14 → HasBits (frac + 2) z → IsCoefficient (z *ℤ pos (2 ^ (14 - frac)))
scaled_small frac (pos n) le h =
    let p : ℕ = 2 ^ (14 - frac) in
    let whole : p * 2 ^ (frac + 1) ≡ 2 ^ 15 = sym (pow-add 2 (14 - frac) (frac + 1)) ∙ ap (λ (k : ℕ). 2 ^ k) (let e : 14 - frac + (frac + 1) ≡ 15 = omega arith in e) in
    let half : 2 ^ (frac + 2 - 1) ≡ 2 ^ (frac + 1) = ap (λ (k : ℕ). 2 ^ k) (let e : frac + 2 - 1 ≡ frac + 1 = omega arith in e) in
    let few : suc n ≤ 2 ^ (frac + 1) = omega arith in
    let most : p * suc n ≤ p * 2 ^ (frac + 1) = mul-le-mul_left p few in
    let none : 0 ≤ 14 - frac = omega arith in
    let some : 2 ^ 0 ≤ p = pow_mono none in
    record { low = omega (arith, ints); high = omega (arith, ints) }
scaled_small frac (negsuc n) le h =
    let p : ℕ = 2 ^ (14 - frac) in
    let whole : p * 2 ^ (frac + 1) ≡ 2 ^ 15 = sym (pow-add 2 (14 - frac) (frac + 1)) ∙ ap (λ (k : ℕ). 2 ^ k) (let e : 14 - frac + (frac + 1) ≡ 15 = omega arith in e) in
    let twice : 2 ^ (frac + 2) ≡ 2 ^ (frac + 1) * 2 = ap (λ (k : ℕ). 2 ^ k) (let e : frac + 2 ≡ suc (frac + 1) = omega arith in e) ∙ pow-suc 2 (frac + 1) in
    let few : suc n ≤ 2 ^ (frac + 1) = omega arith in
    let most : p * suc n ≤ p * 2 ^ (frac + 1) = mul-le-mul_left p few in
    record { low = omega (arith, ints); high = omega (arith, ints) }

weight_small : (frac : ℕ) (c : Option ℤ) → frac ≤ 14 → Allowed (group true (signed_of (frac + 2))) c → IsCoefficient (weight frac c)
unfolding signed_of seen number_of
weight_small frac None le a = record { low = omega (arith, ints); high = omega (arith, ints) }
weight_small frac (Some z) le a = scaled_small frac z le (stands_for (frac + 2) (unsigned (frac + 2) z) z (some_allowed true (signed_of (frac + 2)) z a).fits)

pub weights_small : (frac n : ℕ) (cs : List (Option ℤ)) → frac ≤ 14 → (times n (group true (signed_of (frac + 2)))).Fits cs → (times n (group true (signed_of (frac + 2)))).Meets cs → All IsCoefficient (weights_of frac cs)
unfolding times item made
weights_small frac zero cs le fits meets = All-same IsCoefficient (weights_of frac cs) [] (ap (weights_of frac) fits) (All-nil IsCoefficient)
weights_small frac (suc n) [] le fits meets = absurd fits
weights_small frac (suc n) (c ∷ cs) le fits meets =
    All-cons IsCoefficient (weight frac c) (weights_of frac cs) (weight_small frac c le (record { fits = fits.0; meets = meets.0 })) (weights_small frac n cs le fits.1 meets.1)
