-- The sum of folded values, by the sizes of the values and how many are negative.
use Rattle.std.proofs.Common.{◌≡◌, ℕ, suc, ◌+◌, ◌-◌, ◌*◌, ◌<◌, ◌≤◌, ℤ, pos, negsuc, neg_ℤ, ◌-ℤ◌, ◌≤ℤ◌, ◌<ℤ◌, List, [], ◌∷◌, length, map, drop, get_or, arith, ◌∙◌, ap, inl, inr}
use Rattle.std.specs.Prelude.{unsigned_abs}
use Rattle.std.proofs.lemmas.Int.{ints}
use Rattle.std.proofs.lemmas.Bool.{cases_lt}
use Rattle.std.proofs.lemmas.List.{drop_more}
use Rattle.mlp_search.specs.Folded.{folded, negative, negatives, sizes, all_folded, raised_sum}

pub negatives_few : (vs : List ℤ) → negatives vs ≤ length vs
negatives_few [] = omega arith
negatives_few (pos n ∷ vs) = omega (arith, negatives_few vs)
negatives_few (negsuc n ∷ vs) = omega (arith, negatives_few vs)

-- ---- one more value

pub negatives_next : (f : ℤ → ℤ) (rs : List ℤ) (i n k t : ℕ) → i < length rs → k ≡ negative (f (get_or rs i (pos 0))) → n + negatives (map f (drop i rs)) ≡ t → n + k + negatives (map f (drop (i + 1) rs)) ≡ t
negatives_next f rs i n k t lt is e = omega (arith, is, e, ap (λ (xs : List ℤ). negatives (map f xs)) (drop_more rs i (pos 0) lt))

pub sizes_next : (f : ℤ → ℤ) (rs : List ℤ) (i n k t : ℕ) → i < length rs → k ≤ unsigned_abs (f (get_or rs i (pos 0))) → n + sizes (map f (drop i rs)) ≤ t → n + k + sizes (map f (drop (i + 1) rs)) ≤ t
sizes_next f rs i n k t lt le e = omega (arith, le, e, ap (λ (xs : List ℤ). sizes (map f xs)) (drop_more rs i (pos 0) lt))

-- ---- a folded value

-- a folded value from below
above : (x : ℤ) (k : ℕ) → pos k ≤ℤ x → 2 * k ≤ folded x + 1
above (pos n) k le = omega (arith, ints, le)
above (negsuc n) k le = absurd (omega (arith, ints, le))

below : (x : ℤ) (k : ℕ) → x ≤ℤ neg_ℤ (pos k) → 2 * k ≤ folded x + 1
below (pos n) k le = omega (arith, ints, le)
below (negsuc n) k le = omega (arith, ints, le)

-- moved towards 0, or beyond it
nearer : (n a : ℕ) → 2 * n ≤ folded (pos n -ℤ pos a) + 1 + 2 * a
nearer n a = elim (cases_lt n a) [
  | inl lt ↦ omega (arith, lt)
  | inr ge ↦ omega (arith, ge, above (pos n -ℤ pos a) (n - a) (omega (arith, ints, ge)))
]

nearer_below : (n a : ℕ) → 2 * suc n ≤ folded (negsuc n -ℤ neg_ℤ (pos a)) + 1 + 2 * a
nearer_below n a = elim (cases_lt (suc n) a) [
  | inl lt ↦ omega (arith, lt)
  | inr ge ↦ omega (arith, ge, below (negsuc n -ℤ neg_ℤ (pos a)) (suc n - a) (omega (arith, ints, ge)))
]

-- moved away from 0
farther : (n a : ℕ) → 2 * n + 2 * a ≤ folded (pos n -ℤ neg_ℤ (pos a)) + 1
farther n a = omega (arith, above (pos n -ℤ neg_ℤ (pos a)) (n + a) (omega (arith, ints)))

farther_below : (n a : ℕ) → 2 * suc n + 2 * a ≤ folded (negsuc n -ℤ pos a) + 1
farther_below n a = omega (arith, below (negsuc n -ℤ pos a) (suc n + a) (omega (arith, ints)))

-- ---- all values

raised_at_zero : (vs : List ℤ) → 2 * sizes vs + (length vs - negatives vs) ≤ raised_sum (all_folded (pos 0) vs)
raised_at_zero [] = omega arith
raised_at_zero (pos n ∷ vs) =
    let same : pos n -ℤ pos 0 ≡ pos n = omega (arith, ints) in
    omega (arith, raised_at_zero vs, negatives_few vs, ap folded same)
raised_at_zero (negsuc n ∷ vs) = omega (arith, raised_at_zero vs, negatives_few vs, below (negsuc n -ℤ pos 0) (suc n) (omega (arith, ints)))

raised_above : (a : ℕ) (vs : List ℤ) → 2 * sizes vs + 2 * a * (2 * negatives vs) ≤ raised_sum (all_folded (pos a) vs) + 2 * a * length vs
raised_above a [] = omega arith
raised_above a (pos n ∷ vs) = omega (arith, raised_above a vs, nearer n a)
raised_above a (negsuc n ∷ vs) = omega (arith, raised_above a vs, farther_below n a)

raised_below : (a : ℕ) (vs : List ℤ) → 2 * sizes vs + 2 * a * length vs ≤ raised_sum (all_folded (neg_ℤ (pos a)) vs) + 2 * a * (2 * negatives vs)
raised_below a [] = omega arith
raised_below a (pos n ∷ vs) = omega (arith, raised_below a vs, farther n a)
raised_below a (negsuc n ∷ vs) = omega (arith, raised_below a vs, nearer_below n a)

-- ---- the sum at an offset

pub sum_at_zero : (vs : List ℤ) (offset : ℤ) (sum count n : ℕ) → offset ≡ pos 0 → sum ≤ 2 * sizes vs → count ≡ length vs → n ≡ negatives vs → sum + (count - n) ≤ raised_sum (all_folded offset vs)
sum_at_zero vs offset sum count n at le all some = omega (arith, le, all, some, raised_at_zero vs, ap (λ (z : ℤ). raised_sum (all_folded z vs)) at)

pub sum_above : (vs : List ℤ) (offset : ℤ) (sum far twice count : ℕ) → pos 0 ≤ℤ offset → sum ≤ 2 * sizes vs → far ≡ 2 * unsigned_abs offset → twice ≡ 2 * negatives vs → count ≡ length vs
    → sum + far * twice - far * count ≤ raised_sum (all_folded offset vs)
sum_above vs (pos a) sum far twice count sign le e some all =
    let gained : far * twice ≡ 2 * a * (2 * negatives vs) = ap (λ (k : ℕ). k * twice) e ∙ ap (λ (k : ℕ). 2 * a * k) some in
    let lost : far * count ≡ 2 * a * length vs = ap (λ (k : ℕ). k * count) e ∙ ap (λ (k : ℕ). 2 * a * k) all in
    omega (arith, le, gained, lost, raised_above a vs)
sum_above vs (negsuc a) sum far twice count sign le e some all = absurd (omega (arith, ints, sign))

pub sum_below : (vs : List ℤ) (offset : ℤ) (sum far twice count : ℕ) → offset <ℤ pos 0 → sum ≤ 2 * sizes vs → far ≡ 2 * unsigned_abs offset → twice ≡ 2 * negatives vs → count ≡ length vs
    → sum + far * count - far * twice ≤ raised_sum (all_folded offset vs)
sum_below vs (pos a) sum far twice count sign le e some all = absurd (omega (arith, ints, sign))
sum_below vs (negsuc a) sum far twice count sign le e some all =
    let gained : far * count ≡ 2 * suc a * length vs = ap (λ (k : ℕ). k * count) e ∙ ap (λ (k : ℕ). 2 * suc a * k) all in
    let lost : far * twice ≡ 2 * suc a * (2 * negatives vs) = ap (λ (k : ℕ). k * twice) e ∙ ap (λ (k : ℕ). 2 * suc a * k) some in
    omega (arith, le, gained, lost, raised_below (suc a) vs)
