-- How large coefficients, reflections and errors can be.
use Rattle.std.proofs.Common.{◌≡◌, ℕ, zero, suc, ◌+◌, ◌-◌, ◌*◌, ◌<◌, ◌≤◌, ◌^◌, List, [], ◌∷◌, length, reverse, ℤ, pos, negsuc, neg_ℤ, ◌+ℤ◌, ◌-ℤ◌, ◌*ℤ◌, ◌≤ℤ◌, ◌<ℤ◌, true, arith, refl, sym, ◌∙◌, ap, subst}
use Rattle.std.specs.Prelude.{All, unsigned_abs}
use Rattle.std.proofs.Math.Nat.{mul-le-mul, pow-le-pow_right, one-le-pow}
use Rattle.std.proofs.Math.Pow.{pow-lt}
use Rattle.std.proofs.lemmas.Int.{ints, clamps, unsigned_abs-mul}
use Rattle.std.proofs.lemmas.Bool.{and_parts}
use Rattle.std.proofs.lemmas.List.{get_or-reverse, length-reverse}
use Rattle.std.proofs.lemmas.List.Elements.{All-cons, All-append}
use Rattle.mlp_arith.specs.Words.{floor_by, floor_over}
use Rattle.mlp_arith.proofs.Floors.{floor_le, lt_floor}
use Rattle.mlp_levinson.specs.Computed.{at, remainder, limited, reflection, lessened, extended, error_after, level, is_positive, goes_on, rounded, IsLag, IsSmall, IsReflection}

-- from -b to b
pub record Within (b : ℕ) (v : ℤ) : Type 0 where
  pub low : neg_ℤ (pos b) ≤ℤ v
  pub high : v ≤ℤ pos b

-- ---- lists

no_elements : (P : ℤ → Type 0) → All P []
no_elements P i d h = absurd (omega arith)

head_of : (P : ℤ → Type 0) (x : ℤ) (xs : List ℤ) → All P (x ∷ xs) → P x
head_of P x xs h = h 0 x (omega arith)

tail_of : (P : ℤ → Type 0) (x : ℤ) (xs : List ℤ) → All P (x ∷ xs) → All P xs
tail_of P x xs h = λ i d l. h (suc i) d (omega arith)

All-reverse : (P : ℤ → Type 0) (xs : List ℤ) → All P xs → All P (reverse xs)
All-reverse P xs h = λ i d l.
    let n : i < length xs = omega (arith, l, length-reverse xs) in
    subst P (sym (get_or-reverse xs i d n)) (h (length xs - 1 - i) d (omega arith))

-- ---- coefficients

pub limited_is : (v : ℤ) → IsReflection (limited v)
limited_is v = record { low = omega (arith, ints, clamps); high = omega (arith, ints, clamps) }

-- the product with a reflection, over 2^20
pub share_within : (b : ℕ) (k v : ℤ) → IsReflection k → Within b v → Within b (floor_by 20 (k *ℤ v))
share_within b k v r w =
    let x : unsigned_abs k ≤ 1048576 = omega (arith, ints, r.low, r.high) in
    let y : unsigned_abs v ≤ b = omega (arith, ints, w.low, w.high) in
    let m : unsigned_abs k * unsigned_abs v ≤ 1048576 * b = mul-le-mul x y in
    let e : unsigned_abs (k *ℤ v) ≡ unsigned_abs k * unsigned_abs v = unsigned_abs-mul k v in
    let lo = floor_le (k *ℤ v) 1048576 (omega arith) in
    let hi = lt_floor (k *ℤ v) 1048576 (omega arith) in
    record { low = omega (arith, ints, m, e, lo, hi); high = omega (arith, ints, m, e, lo, hi) }

lessened_within : (b : ℕ) (k : ℤ) (ps bs : List ℤ) → IsReflection k → All (Within b) ps → All (Within b) bs → All (Within (b + b)) (lessened k ps bs)
lessened_within b k [] bs r f g = no_elements (Within (b + b))
lessened_within b k (a ∷ ps) [] r f g = no_elements (Within (b + b))
lessened_within b k (a ∷ ps) (c ∷ cs) r f g =
    let x = head_of (Within b) a ps f in
    let y = share_within b k c r (head_of (Within b) c cs g) in
    All-cons (Within (b + b)) (a -ℤ floor_by 20 (k *ℤ c)) (lessened k ps cs)
    (record { low = omega (arith, ints, x.low, y.high); high = omega (arith, ints, x.high, y.low) })
    (lessened_within b k ps cs r (tail_of (Within b) a ps f) (tail_of (Within b) c cs g))

extended_within : (b : ℕ) (k : ℤ) (ps : List ℤ) → 1048576 ≤ b + b → IsReflection k → All (Within b) ps → All (Within (b + b)) (extended k ps)
extended_within b k ps n r f =
    All-append (Within (b + b)) (lessened k ps (reverse ps)) (k ∷ [])
    (lessened_within b k ps (reverse ps) r f (All-reverse (Within b) ps f))
    (All-cons (Within (b + b)) k [] (record { low = omega (arith, ints, r.low); high = omega (arith, ints, r.high) }) (no_elements (Within (b + b))))

-- each order doubles the bound
level_within : (rs : List ℤ) (m : ℕ) → All (Within (524288 * 2 ^ m)) (level rs m).coefficients.items
level_within rs zero = no_elements (Within (524288 * 2 ^ 0))
level_within rs (suc m) =
    let two : 524288 * 2 ^ m + 524288 * 2 ^ m ≡ 524288 * 2 ^ suc m = omega arith in
    let one : 1 ≤ 2 ^ m = one-le-pow m 2 (omega arith) in
    let P : ℕ → Type 0 = λ b. All (Within b) (level rs (suc m)).coefficients.items in
    subst P two (extended_within (524288 * 2 ^ m) (reflection rs (level rs m)) (level rs m).coefficients.items (omega arith)
    (limited_is (floor_over (unsigned_abs (level rs m).error) (remainder rs (level rs m).coefficients.items))) (level_within rs m))

pub level_small : (rs : List ℤ) (m : ℕ) → m ≤ 8 → All IsSmall (level rs m).coefficients.items
level_small rs m l = λ i d h.
    let p : 2 ^ m ≤ 2 ^ 8 = pow-le-pow_right (omega arith) l in
    let w = level_within rs m i d h in
    record { low = omega (arith, ints, w.low, p); high = omega (arith, ints, w.high, p) }

-- a coefficient times 2^s is below 2^44, and rounded below 2^25
pub scaled_bounds : (s : ℕ) (a : ℤ) → s < 16 → IsSmall a → (neg_ℤ (pos 17592186044416) ≤ℤ (a *ℤ pos (2 ^ s))) × ((a *ℤ pos (2 ^ s)) ≤ℤ pos 17592186044416)
scaled_bounds s a l h =
    let p : 2 ^ s < 2 ^ 16 = pow-lt l in
    let x : unsigned_abs a ≤ 268435456 = omega (arith, ints, h.low, h.high) in
    let y : unsigned_abs (pos (2 ^ s)) ≤ 65536 = omega (arith, ints, p) in
    let m : unsigned_abs a * unsigned_abs (pos (2 ^ s)) ≤ 268435456 * 65536 = mul-le-mul x y in
    let e : unsigned_abs (a *ℤ pos (2 ^ s)) ≡ unsigned_abs a * unsigned_abs (pos (2 ^ s)) = unsigned_abs-mul a (pos (2 ^ s)) in
    (omega (arith, ints, m, e), omega (arith, ints, m, e))

pub rounded_bounds : (s : ℕ) (a : ℤ) → s < 16 → IsSmall a → (neg_ℤ (pos 33554432) ≤ℤ rounded s a) × (rounded s a ≤ℤ pos 33554432)
rounded_bounds s a l h =
    let b = scaled_bounds s a l h in
    let lo = floor_le (a *ℤ pos (2 ^ s) +ℤ pos 524288) 1048576 (omega arith) in
    let hi = lt_floor (a *ℤ pos (2 ^ s) +ℤ pos 524288) 1048576 (omega arith) in
    (omega (arith, ints, b.0, hi), omega (arith, ints, b.1, lo))

-- ---- errors

square : (k : ℤ) → k *ℤ k ≡ pos (unsigned_abs k * unsigned_abs k)
square (pos n) = refl
square (negsuc n) = refl

-- the factor of an error
pub factor_bounds : (k : ℤ) → IsReflection k → (pos 0 ≤ℤ (pos 1099511627776 -ℤ k *ℤ k)) × ((pos 1099511627776 -ℤ k *ℤ k) ≤ℤ pos 1099511627776)
factor_bounds k r =
    let few : unsigned_abs k ≤ 1048575 = omega (arith, ints, r.low, r.high) in
    let s : unsigned_abs k * unsigned_abs k ≤ 1048575 * 1048575 = mul-le-mul few few in
    (omega (arith, ints, square k, s), omega (arith, ints, square k, s))

pub whole_bounds : (e f : ℤ) → pos 0 <ℤ e → IsLag e → pos 0 ≤ℤ f → f ≤ℤ pos 1099511627776 →
    (pos 0 ≤ℤ (e *ℤ f)) × ((e *ℤ f) ≤ℤ pos 316912650057057350374175801344) × ((e *ℤ f) ≤ℤ (e *ℤ pos 1099511627776))
whole_bounds e f p lag lo hi =
    let n : ℕ = unsigned_abs e in
    let g : ℕ = unsigned_abs f in
    let n_is : e ≡ pos n = omega (arith, ints, p) in
    let g_is : f ≡ pos g = omega (arith, ints, lo) in
    let x : e *ℤ f ≡ pos (n * g) = ap (λ z. z *ℤ f) n_is ∙ ap (λ z. pos n *ℤ z) g_is in
    let same : n ≤ n = omega arith in
    let small : n ≤ 288230376151711744 = omega (arith, ints, n_is, lag.high) in
    let most : g ≤ 1099511627776 = omega (arith, ints, g_is, hi) in
    let a : n * g ≤ 288230376151711744 * 1099511627776 = mul-le-mul small most in
    let b : n * g ≤ n * 1099511627776 = mul-le-mul same most in
    (omega (arith, ints, x), omega (arith, ints, x, a), omega (arith, ints, x, b, n_is))

-- a positive error becomes no greater, and not negative
pub error_within : (e k : ℤ) → pos 0 <ℤ e → IsReflection k → (pos 0 ≤ℤ error_after e k) × (error_after e k ≤ℤ e)
error_within e k p r =
    let j : ℕ = unsigned_abs k in
    let few : j ≤ 1048575 = omega (arith, ints, r.low, r.high) in
    let s : j * j ≤ 1048575 * 1048575 = mul-le-mul few few in
    let f : pos (2 ^ 40) -ℤ k *ℤ k ≡ pos (1099511627776 - j * j) = omega (arith, ints, square k, s) in
    let n : ℕ = unsigned_abs e in
    let is : e ≡ pos n = omega (arith, ints, p) in
    let x : e *ℤ (pos (2 ^ 40) -ℤ k *ℤ k) ≡ pos (n * (1099511627776 - j * j)) = ap (λ z. e *ℤ z) f ∙ ap (λ z. z *ℤ pos (1099511627776 - j * j)) is in
    let same : n ≤ n = omega arith in
    let less : 1099511627776 - j * j ≤ 1099511627776 = omega arith in
    let m : n * (1099511627776 - j * j) ≤ n * 1099511627776 = mul-le-mul same less in
    let lo = floor_le (e *ℤ (pos (2 ^ 40) -ℤ k *ℤ k)) 1099511627776 (omega arith) in
    let hi = lt_floor (e *ℤ (pos (2 ^ 40) -ℤ k *ℤ k)) 1099511627776 (omega arith) in
    (omega (arith, ints, x, hi), omega (arith, ints, x, m, lo, is))

pub positive : (e : ℤ) → is_positive e ≡ true → pos 0 <ℤ e
positive (pos zero) h = let n : ⊥ = cc in absurd n
positive (pos (suc n)) h = omega (arith, ints)
positive (negsuc n) h = let n : ⊥ = cc in absurd n

pub level_error : (rs : List ℤ) (m : ℕ) → IsLag (at rs 0) → goes_on rs m ≡ true → IsLag (level rs m).error
level_error rs zero h g = h
level_error rs (suc m) h g =
    let parts = and_parts (goes_on rs m) (is_positive (level rs m).error) g in
    let before = level_error rs m h parts.0 in
    let w = error_within (level rs m).error (reflection rs (level rs m)) (positive (level rs m).error parts.1) (limited_is (floor_over (unsigned_abs (level rs m).error) (remainder rs (level rs m).coefficients.items))) in
    record { low = omega (arith, ints, w.0); high = omega (arith, ints, w.1, before.high) }
