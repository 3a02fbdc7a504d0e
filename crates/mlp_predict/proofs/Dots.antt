-- Sums of coefficients times values, and their bounds.
use Rattle.std.proofs.Common.{◌≡◌, ℕ, zero, suc, ◌+◌, ◌*◌, ◌<◌, ◌≤◌, List, [], ◌∷◌, length, take, get_or, ℤ, pos, neg_ℤ, ◌+ℤ◌, ◌*ℤ◌, ◌≤ℤ◌, FitsSigned, w32, w64, to_z, of_z, arith, ◌∙◌, ap, add-one}
use Rattle.std.proofs.lemmas.Int.{ints, to_z-of_z, unsigned_abs-mul}
use Rattle.std.specs.Prelude.{unsigned_abs}
use Rattle.std.proofs.Math.Nat.{mul-le-mul}
use Rattle.mlp_predict.specs.Prediction.{dot, IsCoefficient}

-- one coefficient more
dot_suc : (cs vs : List ℤ) (i : ℕ) → i < length cs → length cs ≤ length vs → dot (take (suc i) cs) vs ≡ dot (take i cs) vs +ℤ get_or cs i (pos 0) *ℤ get_or vs i (pos 0)
dot_suc [] vs i h k = absurd (omega arith)
dot_suc (c ∷ cs) [] i h k = absurd (omega arith)
dot_suc (c ∷ cs) (v ∷ vs) zero h k = omega (arith, ints)
dot_suc (c ∷ cs) (v ∷ vs) (suc i) h k = let e = dot_suc cs vs i (omega arith) (omega arith) in omega (arith, ints, e)

pub dot_more : (cs vs : List ℤ) (i : ℕ) → i < length cs → length cs ≤ length vs → dot (take (i + 1) cs) vs ≡ dot (take i cs) vs +ℤ get_or cs i (pos 0) *ℤ get_or vs i (pos 0)
dot_more cs vs i h k = rw add-one (dot_suc cs vs i h k)

-- a coefficient times a word
pub product_bounds : (c v : ℤ) → IsCoefficient c → FitsSigned w32 v → (neg_ℤ (pos 70368744177664) ≤ℤ (c *ℤ v)) × ((c *ℤ v) ≤ℤ pos 70368744177664)
product_bounds c v small fits =
    let m : unsigned_abs c * unsigned_abs v ≤ 32768 * 2147483648 = (let x : unsigned_abs c ≤ 32768 = omega (arith, ints, small) in let y : unsigned_abs v ≤ 2147483648 = omega (arith, ints, fits) in mul-le-mul x y) in
    let e : unsigned_abs (c *ℤ v) ≡ unsigned_abs c * unsigned_abs v = unsigned_abs-mul c v in
    (omega (arith, ints, m, e), omega (arith, ints, m, e))

-- the product that the code computes
pub product_is_lem : (c v r q : ℤ) → IsCoefficient c → FitsSigned w32 c → FitsSigned w32 v → r ≡ to_z w32 (of_z w32 c)
    → q ≡ to_z w32 (of_z w32 v) → to_z w64 (of_z w64 (to_z w64 (of_z w64 r) *ℤ to_z w64 (of_z w64 q))) ≡ c *ℤ v
product_is_lem c v r q small f g e h =
    let a : r ≡ c = e ∙ to_z-of_z w32 c f in
    let b : q ≡ v = h ∙ to_z-of_z w32 v g in
    let wide : (z : ℤ) → FitsSigned w32 z → to_z w64 (of_z w64 z) ≡ z = λ z k. to_z-of_z w64 z (omega (arith, ints, k)) in
    ap (λ z. to_z w64 (of_z w64 (to_z w64 (of_z w64 z) *ℤ to_z w64 (of_z w64 q)))) a
    ∙ ap (λ z. to_z w64 (of_z w64 (to_z w64 (of_z w64 c) *ℤ to_z w64 (of_z w64 z)))) b
    ∙ ap (λ z. to_z w64 (of_z w64 (z *ℤ to_z w64 (of_z w64 v)))) (wide c f)
    ∙ ap (λ z. to_z w64 (of_z w64 (c *ℤ z))) (wide v g)
    ∙ to_z-of_z w64 (c *ℤ v) (let b2 = product_bounds c v small g in omega (arith, ints, b2))
