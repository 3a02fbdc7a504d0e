-- What the code computes of the definitions.
use Rattle.std.proofs.Common.{◌≡◌, ℕ, suc, ◌+◌, ◌-◌, ◌*◌, ◌/◌, ◌%◌, ◌<◌, ◌≤◌, ◌^◌, ℤ, pos, negsuc, ◌+ℤ◌, ◌-ℤ◌, ◌*ℤ◌, ◌≤ℤ◌, FitsSigned, arith, refl, sym, ◌∙◌, ap, to_z, of_z}
use Rattle.std.proofs.lemmas.Int.{ints, int_wrap_fits, wrapping_mul_is, to_z-of_z, SFits-int_wrap}
use Rattle.std.specs.Int.Signed.{mag_shr, mag, shr_z}
use Rattle.std.proofs.lemmas.Nat.{and_mask}
use Rattle.std.specs.Int.Bits.{bit_and}
use Rattle.std.proofs.Math.Nat.{div-lt_iff_lt-mul, mul-le-mul_right}
use Rattle.std.specs.Int.{int_wrap, w32, w64}
use Rattle.std.proofs.Math.Pow.{pow_pos, pow-lt, pow-add}
use Rattle.mlp_arith.proofs.Floors.{floor_only}
use Rattle.mlp_arith.proofs.Residues.{clear_le, wrap_away, low24_unique, low24-wrap}
use Rattle.mlp_arith.specs.Words.{clear, wrap, low24}

-- the low 32 bits of a 64-bit value, read as signed
pub wrap_low : (v : ℤ) → FitsSigned w64 v → to_z w32 (of_z w64 v % 4294967296) ≡ wrap v
unfolding int_wrap
wrap_low (pos n) f = refl
wrap_low (negsuc n) f = let h : n < 2 ^ 63 = f.sfits in ap (to_z w32) (omega arith)

pub wrapped : (v r : ℤ) (n : ℕ) → FitsSigned w64 v → FitsSigned w32 r → n ≡ of_z w64 (to_z w64 (of_z w64 v)) → r ≡ to_z w32 (bit_and n 4294967295) → to_z w32 (of_z w32 r) ≡ wrap v
wrapped v r n f g e h =
    to_z-of_z w32 r g ∙ h ∙ ap (to_z w32) (and_mask n 32 ∙ ap (λ k. k % 4294967296) (e ∙ ap (of_z w64) (to_z-of_z w64 v f))) ∙ wrap_low v f

-- cleared values of 64 bits have 64 bits
pub clear_fits : (q : ℕ) (v : ℤ) → q < 32 → FitsSigned w64 v → FitsSigned w64 (clear q v)
clear_fits q (pos a) l f = let h : a < 2 ^ 63 = f.sfits in let k : (clear q (pos a)) ≤ℤ pos a = clear_le q (pos a) in omega (arith, ints)
clear_fits q (negsuc a) l f =
    let h : a < 2 ^ 63 = f.sfits in
    let e : 2 ^ 63 ≡ 2 ^ (63 - q) * 2 ^ q = ap (λ k. 2 ^ k) (let s : 63 ≡ (63 - q) + q = omega arith in s) ∙ pow-add 2 (63 - q) q in
    let d : a / 2 ^ q < 2 ^ (63 - q) = (div-lt_iff_lt-mul (pow_pos q)).1 (omega (arith, e)) in
    let m : suc (a / 2 ^ q) * 2 ^ q ≤ 2 ^ (63 - q) * 2 ^ q = mul-le-mul_right (2 ^ q) (omega (arith, d)) in
    omega (arith, ints, m, e)

-- a shift down and back up clears
pub shl_shr : (q : ℕ) (v : ℤ) → q < 32 → FitsSigned w64 v → to_z w64 (of_z w64 (shr_z (to_z w64 (of_z w64 v)) (2 ^ q)) * 2 ^ q % 18446744073709551616) ≡ clear q v
shl_shr q v l f =
    let p : 2 ^ q < 2 ^ 32 = pow-lt l in
    ap (λ z. to_z w64 (of_z w64 (shr_z z (2 ^ q)) * 2 ^ q % 18446744073709551616)) (to_z-of_z w64 v f)
    ∙ wrapping_mul_is w64 (shr_z v (2 ^ q)) (pos (2 ^ q)) (let h : mag v < 2 ^ 63 = f.sfits in record { sfits = omega (arith, mag_shr v (2 ^ q)) }) (omega (arith, ints))
    ∙ int_wrap_fits w64 (clear q v) (clear_fits q v l f)

-- the low 24 bits, by a shift up and down
cut : (v : ℤ) → shr_z (wrap (v *ℤ pos 256)) 256 ≡ low24 v
cut v =
    let a = wrap_away (v *ℤ pos 256) in
    let u : ℤ = v +ℤ a.0 *ℤ pos 16777216 in
    let e : wrap (v *ℤ pos 256) ≡ u *ℤ pos 256 = omega (arith, ints, a.1) in
    let fits = SFits-int_wrap w32 (v *ℤ pos 256) in
    let t : shr_z (wrap (v *ℤ pos 256)) 256 ≡ u = floor_only (wrap (v *ℤ pos 256)) u 256 (omega arith) (omega (arith, ints, e)) (omega (arith, ints, e)) in
    t ∙ sym (low24_unique v u (record { low = omega (arith, ints, e, fits); high = omega (arith, ints, e, fits); congruent = (pos 0 -ℤ a.0, omega (arith, ints)) }))

pub shifted_24 : (v : ℤ) → FitsSigned w32 v → to_z w32 (of_z w32 (shr_z (to_z w32 (of_z w32 v * 256 % 4294967296)) 256)) ≡ low24 v
shifted_24 v f =
    let e : to_z w32 (of_z w32 v * 256 % 4294967296) ≡ wrap (v *ℤ pos 256) = wrapping_mul_is w32 v (pos 256) f (omega (arith, ints)) in
    ap (λ z. to_z w32 (of_z w32 (shr_z z 256))) e
    ∙ to_z-of_z w32 (shr_z (wrap (v *ℤ pos 256)) 256) (let h : mag (wrap (v *ℤ pos 256)) < 2 ^ 31 = (SFits-int_wrap w32 (v *ℤ pos 256)).sfits in record { sfits = omega (arith, mag_shr (wrap (v *ℤ pos 256)) 256) })
    ∙ cut v

-- a sample, by a shift up that may wrap
pub shifted_sample : (v r : ℤ) (q : ℕ) → q ≤ 7 → FitsSigned w32 v → FitsSigned w32 r →
    r ≡ low24 (to_z w32 (of_z w32 v * 2 ^ q % 4294967296)) → to_z w32 (of_z w32 r) ≡ low24 (v *ℤ pos (2 ^ q))
shifted_sample v r q l f g e =
    let p : 2 ^ q < 2 ^ 8 = let m : q < 8 = omega arith in pow-lt m in
    let up : to_z w32 (of_z w32 v * 2 ^ q % 4294967296) ≡ wrap (v *ℤ pos (2 ^ q)) = wrapping_mul_is w32 v (pos (2 ^ q)) f (omega (arith, ints)) in
    to_z-of_z w32 r g ∙ e ∙ ap low24 up ∙ low24-wrap (v *ℤ pos (2 ^ q))
