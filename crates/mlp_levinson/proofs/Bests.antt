-- A computed filter is the best one.
use Rattle.std.proofs.Common.{◌≡◌, ℕ, zero, suc, ◌<◌, ◌≤◌, ◌^◌, List, [], ◌∷◌, length, reverse, get_or, ℤ, pos, negsuc, ◌+ℤ◌, ◌*ℤ◌, ◌≤ℤ◌, ◌<ℤ◌, Bool, true, false, Some, None, arith, refl, sym, ◌∙◌, ap, subst, inl, inr}
use Rattle.std.specs.Prelude.{All, map, ◌↔◌, if◌then◌else◌, IsSome, IfSome}
use Rattle.std.proofs.lemmas.Int.{ints}
use Rattle.std.proofs.lemmas.Bool.{and_parts, and_from, and_left, and_right}
use Rattle.std.proofs.lemmas.Bool.Decides.{eqb_tells}
use Rattle.std.proofs.lemmas.List.{length-reverse, length-append, length-map}
use Rattle.std.proofs.lemmas.List.Elements.{All-cons, All-map}
use Rattle.std.proofs.lemmas.List.Folds.{list_all-map}
use Rattle.mlp_arith.proofs.Floors.{floor_le, lt_floor}
use Rattle.mlp_predict.specs.Prediction.{IsCoefficient}
use Rattle.mlp_predict.specs.Filters.{scaled}
use Rattle.mlp_syntax.specs.declared.params.Filter.{Filter}
use Rattle.mlp_levinson.specs.Computed.{reflection, lessened, level, is_positive, goes_on, has_bits, rounded, greatest_shift, filter_of, filter_over, IsSmall}
use Rattle.mlp_levinson.specs.Best.{ArePositive, HasBits, IsGreatestShift, StandsFor, IsComputed}
use Rattle.mlp_levinson.proofs.Bounds.{level_small, positive}
use Rattle.mlp_levinson.proofs.Widths.{all_to, greatest, least}

-- ---- where there is one

pub is_positive-from : (e : ℤ) → pos 0 <ℤ e → is_positive e ≡ true
is_positive-from (pos zero) h = absurd (omega (arith, ints, h))
is_positive-from (pos (suc n)) h = refl
is_positive-from (negsuc n) h = absurd (omega (arith, ints, h))

positives : (rs : List ℤ) (m : ℕ) → goes_on rs m ≡ true → ArePositive rs m
positives rs zero g i l = absurd (omega arith)
positives rs (suc m) g i l =
    let p = and_parts (goes_on rs m) (is_positive (level rs m).error) g in
    let P : ℕ → Type 0 = λ n. pos 0 <ℤ (level rs n).error in
    elim (eqb_tells i m) [
      | inl e ↦ subst P (sym e.1) (positive (level rs m).error p.1)
      | inr e ↦ positives rs m p.0 i (omega (arith, e.1))
    ]

pub goes_on-from : (rs : List ℤ) (m : ℕ) → ArePositive rs m → goes_on rs m ≡ true
goes_on-from rs zero h = refl
goes_on-from rs (suc m) h =
    and_from (goes_on rs m) (is_positive (level rs m).error) (goes_on-from rs m (λ i l. h i (omega arith))) (is_positive-from (level rs m).error (h m (omega arith)))

some_true : (b : Bool) (f : Filter 8) → IsSome (if b then Some f else None) → b ≡ true
some_true true f h = refl
some_true false f h = let e : false ≡ true = h in let n : ⊥ = cc in absurd n

true_some : (b : Bool) (f : Filter 8) → b ≡ true → IsSome (if b then Some f else None)
true_some true f e = refl
true_some false f e = absurd (let n : ⊥ = cc in n)

pub there : (rs : List ℤ) (n : ℕ) → IsSome (filter_over rs n) ↔ ArePositive rs n
there rs n =
    let f : Filter 8 = filter_of (level rs n).coefficients.items in
    (λ h. positives rs n (some_true (goes_on rs n) f h), λ h. true_some (goes_on rs n) f (goes_on-from rs n h))

-- an error that isn't positive ends the recursion
pub stops : (rs : List ℤ) (m n : ℕ) → m < n → is_positive (level rs m).error ≡ false → goes_on rs n ≡ false
stops rs m zero l e = absurd (omega arith)
stops rs m (suc n) l e =
    let P : ℕ → Type 0 = λ i. is_positive (level rs i).error ≡ false in
    elim (eqb_tells m n) [
      | inl is ↦ and_right (goes_on rs n) (is_positive (level rs n).error) (subst P is.1 e)
      | inr other ↦ and_left (goes_on rs n) (is_positive (level rs n).error) (stops rs m n (omega (arith, other.1)) e)
    ]

pub not_positive : (e : ℤ) → e ≤ℤ pos 0 → is_positive e ≡ false
not_positive (pos zero) h = refl
not_positive (pos (suc n)) h = absurd (omega (arith, ints, h))
not_positive (negsuc n) h = refl

-- ---- as many coefficients as the order

length-lessened : (k : ℤ) (ps bs : List ℤ) → length ps ≡ length bs → length (lessened k ps bs) ≡ length ps
length-lessened k [] bs e = refl
length-lessened k (a ∷ ps) [] e = absurd (omega (arith, e))
length-lessened k (a ∷ ps) (b ∷ bs) e = ap suc (length-lessened k ps bs (omega (arith, e)))

pub length-level : (rs : List ℤ) (m : ℕ) → length (level rs m).coefficients.items ≡ m
length-level rs zero = refl
length-level rs (suc m) =
    let ps : List ℤ = (level rs m).coefficients.items in
    let k : ℤ = reflection rs (level rs m) in
    let e = length-lessened k ps (reverse ps) (sym (length-reverse ps)) in
    omega (arith, length-append (lessened k ps (reverse ps)) (k ∷ []), e, length-level rs m)

-- ---- the filter

-- without fraction bits all coefficients have 16 bits
zero_bits : (a : ℤ) → IsSmall a → HasBits 16 (rounded 0 a)
zero_bits a h =
    let lo = floor_le (a *ℤ pos 1 +ℤ pos 524288) 1048576 (omega arith) in
    let hi = lt_floor (a *ℤ pos 1 +ℤ pos 524288) 1048576 (omega arith) in
    record { low = omega (arith, ints, lo, hi, h.low); high = omega (arith, ints, lo, hi, h.high) }

usable : (cs : List ℤ) → All (HasBits 16) cs → All IsCoefficient (scaled 0 cs)
usable [] h = λ i d l. absurd (omega arith)
usable (c ∷ cs) h =
    let b : HasBits 16 c = h 0 c (omega arith) in
    All-cons IsCoefficient (c *ℤ pos (2 ^ 0)) (scaled 0 cs) (record { low = omega (arith, ints, b.low); high = omega (arith, ints, b.high) })
    (usable cs (λ i d l. h (suc i) d (omega arith)))

stands_for : (ps : List ℤ) → All IsSmall ps → StandsFor ps (filter_of ps)
stands_for ps h =
    let plain : All (HasBits 16) (map (rounded 0) ps) = All-map (HasBits 16) (rounded 0) ps (λ i d l. zero_bits (get_or ps i d) (h i d l)) in
    let g : IsGreatestShift ps (greatest_shift 15 ps) = greatest ps (sym (list_all-map (has_bits 16) (rounded 0) ps) ∙ all_to 16 (map (rounded 0) ps) plain) in
    record {
      shift = g;
      coefficients = refl;
      width = least 16 (map (rounded (greatest_shift 15 ps)) ps) g.fits;
      unshifted = refl;
      stateless = refl;
      usable = record { shift = omega (arith, g.most); coeff_shift = omega arith; coefficients = usable (map (rounded (greatest_shift 15 ps)) ps) g.fits };
    }

if_some : (b : Bool) (f : Filter 8) (P : Filter 8 → Type 0) → P f → IfSome (if b then Some f else None) P
if_some true f P h = h
if_some false f P h = tt

pub best : (rs : List ℤ) (n : ℕ) → n ≤ 8 → IfSome (filter_over rs n) (IsComputed rs n)
best rs n l =
    let ps : List ℤ = (level rs n).coefficients.items in
    if_some (goes_on rs n) (filter_of ps) (IsComputed rs n)
    (record { count = length-map ps (rounded (greatest_shift 15 ps)) ∙ length-level rs n; stands_for = stands_for ps (level_small rs n l) })
