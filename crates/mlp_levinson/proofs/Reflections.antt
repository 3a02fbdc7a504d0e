-- The reflection that the code divides.
use Rattle.std.proofs.Common.{◌≡◌, ℕ, ◌/◌, ◌<◌, ℤ, pos, negsuc, ◌+ℤ◌, ◌-ℤ◌, ◌*ℤ◌, ◌≤ℤ◌, FitsSigned, w64, to_z, of_z, arith, ◌∙◌, ap}
use Rattle.std.specs.Prelude.{unsigned_abs}
use Rattle.std.proofs.lemmas.Int.{ints, clamps, by_lt_z, to_z-of_z}
use Rattle.mlp_arith.specs.Words.{floor_over, IsFloor}
use Rattle.mlp_arith.proofs.Floors.{add-mul}
use Rattle.mlp_arith.proofs.Residues.{floor_is, floor_over-add}
use Rattle.mlp_levinson.specs.Computed.{limited}

-- products with a natural number keep the order
mul_mono : (a b : ℤ) (n : ℕ) → a ≤ℤ b → (a *ℤ pos n) ≤ℤ (b *ℤ pos n)
mul_mono a b n h =
    let d : ℕ = unsigned_abs (b -ℤ a) in
    let is : b ≡ a +ℤ pos d = omega (arith, ints, h) in
    let e : b *ℤ pos n ≡ a *ℤ pos n +ℤ pos d *ℤ pos n = ap (λ z. z *ℤ pos n) is ∙ add-mul a (pos d) (pos n) in
    let at_least : pos 0 ≤ℤ (pos d *ℤ pos n) = omega (arith, ints) in
    omega (arith, ints, e, at_least)

-- a remainder at or above the greatest multiple
pub reflection_high : (n : ℕ) (v : ℤ) → 0 < n → (pos 1048575 *ℤ pos n) ≤ℤ v → limited (floor_over n v) ≡ pos 1048575
reflection_high n v p h =
    let f : IsFloor n v (floor_over n v) = floor_is n v p in
    let q : ℤ = floor_over n v in
    let high : pos 1048575 ≤ℤ floor_over n v =
    by_lt_z q (pos 1048575)
    (λ less. let m = mul_mono (q +ℤ pos 1) (pos 1048575) n (omega (arith, ints, less)) in absurd (omega (arith, ints, m, h, f.high)))
    (λ more. more) in
    omega (arith, ints, clamps, high)

-- .. at or below the least
pub reflection_low : (n : ℕ) (v : ℤ) → 0 < n → v ≤ℤ (negsuc 1048574 *ℤ pos n) → limited (floor_over n v) ≡ negsuc 1048574
reflection_low n v p h =
    let f : IsFloor n v (floor_over n v) = floor_is n v p in
    let q : ℤ = floor_over n v in
    let low : floor_over n v ≤ℤ negsuc 1048574 =
    by_lt_z (negsuc 1048574) q
    (λ more. let m = mul_mono (negsuc 1048573) q n (omega (arith, ints, more)) in absurd (omega (arith, ints, m, h, f.low, p)))
    (λ less. less) in
    omega (arith, ints, clamps, low)

-- .. between them: divided as a natural number, raised by 2^20
pub reflection_between : (n u : ℕ) (v : ℤ) → 0 < n → (negsuc 1048574 *ℤ pos n) ≤ℤ v → v ≤ℤ (pos 1048575 *ℤ pos n) → pos u ≡ v +ℤ pos 1048576 *ℤ pos n →
    (limited (floor_over n v) ≡ pos (u / n) -ℤ pos 1048576) × (u / n < 2097152)
reflection_between n u v p lo hi is =
    let f : IsFloor n v (floor_over n v) = floor_is n v p in
    let q : ℤ = floor_over n v in
    let raised : pos (u / n) ≡ q +ℤ pos 1048576 = ap (floor_over n) is ∙ floor_over-add n v (pos 1048576) p in
    let low : negsuc 1048574 ≤ℤ floor_over n v =
    by_lt_z q (negsuc 1048574)
    (λ less. let m = mul_mono (q +ℤ pos 1) (negsuc 1048574) n (omega (arith, ints, less)) in absurd (omega (arith, ints, m, lo, f.high)))
    (λ more. more) in
    let high : floor_over n v ≤ℤ pos 1048575 =
    by_lt_z (pos 1048575) q
    (λ more. let m = mul_mono (pos 1048576) q n (omega (arith, ints, more)) in absurd (omega (arith, ints, m, hi, f.low, p)))
    (λ less. less) in
    (omega (arith, ints, clamps, low, high, raised), omega (arith, ints, raised, high))

-- a quotient lowered again, in words of 64 bits
pub quotient_fits : (q : ℕ) → q < 2097152 → FitsSigned w64 (to_z w64 q -ℤ pos 1048576)
quotient_fits q h = omega (arith, ints)

pub quotient_is : (q : ℕ) → q < 2097152 → to_z w64 (of_z w64 (to_z w64 q -ℤ pos 1048576)) ≡ pos q -ℤ pos 1048576
quotient_is q h =
    let e : to_z w64 q ≡ pos q = omega (arith, ints) in
    to_z-of_z w64 (to_z w64 q -ℤ pos 1048576) (quotient_fits q h) ∙ ap (λ z. z -ℤ pos 1048576) e
