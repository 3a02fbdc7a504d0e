-- Sums of products, in words wide enough.
use Rattle.std.proofs.Common.{◌≡◌, ◌*◌, ◌≤◌, ℤ, pos, neg_ℤ, ◌*ℤ◌, ◌≤ℤ◌, FitsSigned, to_z, of_z, arith, ◌∙◌, ap}
use mir.Syntax.{Width}
use Rattle.std.specs.Prelude.{unsigned_abs}
use Rattle.std.proofs.Math.Nat.{mul-le-mul}
use Rattle.std.proofs.lemmas.Int.{ints, to_z-of_z, unsigned_abs-mul}
use Rattle.mlp_arith.specs.Ranges.{Is26}
use Rattle.mlp_levinson.specs.Computed.{IsLag, IsSmall}

-- a product whose factors were widened
pub product_at : (w n : Width) (c v r q : ℤ) → FitsSigned n c → FitsSigned n v → FitsSigned w c → FitsSigned w v → FitsSigned w (c *ℤ v) →
    r ≡ to_z n (of_z n c) → q ≡ to_z n (of_z n v) → to_z w (of_z w (to_z w (of_z w r) *ℤ to_z w (of_z w q))) ≡ c *ℤ v
product_at w n c v r q f g f' g' fits e h =
    ap (λ z. to_z w (of_z w (to_z w (of_z w z) *ℤ to_z w (of_z w q)))) (e ∙ to_z-of_z n c f)
    ∙ ap (λ z. to_z w (of_z w (to_z w (of_z w c) *ℤ to_z w (of_z w z)))) (h ∙ to_z-of_z n v g)
    ∙ ap (λ z. to_z w (of_z w (z *ℤ to_z w (of_z w v)))) (to_z-of_z w c f')
    ∙ ap (λ z. to_z w (of_z w (c *ℤ z))) (to_z-of_z w v g')
    ∙ to_z-of_z w (c *ℤ v) fits

-- .. of two values of 26 bits
pub product26 : (c v : ℤ) → Is26 c → Is26 v → (neg_ℤ (pos 1125899906842624) ≤ℤ (c *ℤ v)) × ((c *ℤ v) ≤ℤ pos 1125899906842624)
product26 c v f g =
    let x : unsigned_abs c ≤ 33554432 = omega (arith, ints, f.low, f.high) in
    let y : unsigned_abs v ≤ 33554432 = omega (arith, ints, g.low, g.high) in
    let m : unsigned_abs c * unsigned_abs v ≤ 33554432 * 33554432 = mul-le-mul x y in
    let e : unsigned_abs (c *ℤ v) ≡ unsigned_abs c * unsigned_abs v = unsigned_abs-mul c v in
    (omega (arith, ints, m, e), omega (arith, ints, m, e))

-- .. of a coefficient and a lag: 2^86
pub product_lag : (c v : ℤ) → IsSmall c → IsLag v → (neg_ℤ (pos 77371252455336267181195264) ≤ℤ (c *ℤ v)) × ((c *ℤ v) ≤ℤ pos 77371252455336267181195264)
product_lag c v f g =
    let x : unsigned_abs c ≤ 268435456 = omega (arith, ints, f.low, f.high) in
    let y : unsigned_abs v ≤ 288230376151711744 = omega (arith, ints, g.low, g.high) in
    let m : unsigned_abs c * unsigned_abs v ≤ 268435456 * 288230376151711744 = mul-le-mul x y in
    let e : unsigned_abs (c *ℤ v) ≡ unsigned_abs c * unsigned_abs v = unsigned_abs-mul c v in
    (omega (arith, ints, m, e), omega (arith, ints, m, e))
