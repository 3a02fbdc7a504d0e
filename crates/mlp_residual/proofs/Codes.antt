-- Codes of residuals.
use Rattle.std.proofs.Common.{◌≡◌, ℕ, suc, ◌+◌, ◌*◌, ◌%◌, ◌<◌, ◌≤◌, ◌^◌, ℤ, pos, negsuc, neg_ℤ, ◌+ℤ◌, ◌-ℤ◌, ◌*ℤ◌, ◌≤ℤ◌, FitsSigned, w64, to_z, of_z, arith, sym, ◌∙◌, ap, Option, Some, None}
use Rattle.std.proofs.lemmas.Int.{ints, wrapping_mul_is, int_wrap_fits}
use Rattle.std.specs.Prelude.{IfSome, IfNone, unsigned_abs}
use Rattle.std.specs.Int.Signed.{shr_z}
use Rattle.std.proofs.Math.Nat.{mul-le-mul_right}
use Rattle.std.proofs.Math.Pow.{pow_pos, pow-lt}
use Rattle.mlp_syntax.specs.declared.segment.Code.{Code}
use Rattle.mlp_arith.specs.Words.{clear}
use Rattle.mlp_arith.proofs.Floors.{floor_only}
use Rattle.mlp_residual.specs.Coding.{symbols_of, sign_offset, value_of, Spells}

-- a multiple of the divisor has itself as its floor
pub floor_multiple : (v : ℤ) (m : ℕ) → 0 < m → shr_z (v *ℤ pos m) m ≡ v
floor_multiple v m h = floor_only (v *ℤ pos m) v m h (omega (arith, ints)) (omega (arith, ints))

-- a multiple of 2^q is cleared already
pub clear_whole : (q : ℕ) (v r : ℤ) → v *ℤ pos (2 ^ q) ≡ r → clear q r ≡ r
clear_whole q v r e = ap (clear q) (sym e) ∙ ap (λ z. z *ℤ pos (2 ^ q)) (floor_multiple v (2 ^ q) (pow_pos q)) ∙ e

-- one value has one multiple
pub same_value : (q : ℕ) (v w : ℤ) → v *ℤ pos (2 ^ q) ≡ w *ℤ pos (2 ^ q) → v ≡ w
same_value q v w e = sym (floor_multiple v (2 ^ q) (pow_pos q)) ∙ ap (λ z. shr_z z (2 ^ q)) e ∙ floor_multiple w (2 ^ q) (pow_pos q)

-- the place above the least value, from the residual
pub place_of : (book b q : ℕ) (code : Code) (offset v r : ℤ) → v *ℤ pos (2 ^ q) ≡ r → Spells book b offset q r code → v -ℤ offset +ℤ pos (sign_offset book b) ≡ pos (code.symbol * 2 ^ b + code.low)
place_of book b q code offset v r e s =
    let a : v ≡ value_of book b offset code = same_value q v (value_of book b offset code) (e ∙ sym s.value) in
    omega (arith, ints, a)

-- .. and back
pub spelled : (book b q : ℕ) (code : Code) (offset v r : ℤ) → v *ℤ pos (2 ^ q) ≡ r → v -ℤ offset +ℤ pos (sign_offset book b) ≡ pos (code.symbol * 2 ^ b + code.low) → code.symbol < symbols_of book → code.low < 2 ^ b
    → Spells book b offset q r code
spelled book b q code offset v r e p s l = record {
  symbol_in = s;
  low_in = l;
  value = ap (λ z. z *ℤ pos (2 ^ q)) (let a : value_of book b offset code ≡ v = omega (arith, ints, p) in a) ∙ e;
}

-- a place within the book's is below its number of symbols
pub within : (book b symbol low : ℕ) → symbol < symbols_of book → low < 2 ^ b → symbol * 2 ^ b + low < symbols_of book * 2 ^ b
within book b symbol low s l = let k : suc symbol * 2 ^ b ≤ symbols_of book * 2 ^ b = mul-le-mul_right (2 ^ b) s in omega (arith, k)

-- what the code reads off a place
pub read_code : (o : Option Code) (book b q : ℕ) (offset v r place : ℤ) → v *ℤ pos (2 ^ q) ≡ r → place ≡ v -ℤ offset +ℤ pos (sign_offset book b) → pos 0 ≤ℤ place → FitsSigned w64 place
    → IfSome o (λ c. unsigned_abs (to_z w64 (of_z w64 place)) ≡ c.symbol * 2 ^ b + c.low) → IfSome o (λ c. c.symbol < symbols_of book) → IfSome o (λ c. c.low < 2 ^ b) → IfSome o (λ c. Spells book b offset q r c)
read_code None book b q offset v r place e p n f c s l = tt
read_code (Some x) book b q offset v r place e p n f c s l = spelled book b q x offset v r e (omega (arith, ints, c, p, n, f)) s l

pub no_code : (o : Option Code) (book b q : ℕ) (offset v r place : ℤ) → v *ℤ pos (2 ^ q) ≡ r → place ≡ v -ℤ offset +ℤ pos (sign_offset book b) → FitsSigned w64 place
    → IfNone o (symbols_of book * 2 ^ b ≤ unsigned_abs (to_z w64 (of_z w64 place))) → IfNone o ((code : Code) → Spells book b offset q r code → ⊥)
no_code (Some x) book b q offset v r place e p f c = tt
no_code None book b q offset v r place e p f c = λ code s.
    let k = place_of book b q code offset v r e s in
    let m = within book b code.symbol code.low s.symbol_in s.low_in in
    omega (arith, ints, k, m, p, f, c)

-- ---- steps

-- so many steps of at most 2^15 have 64 bits
pub steps_fit : (q : ℕ) (v : ℤ) → q < 16 → neg_ℤ (pos 1099511627776) ≤ℤ v → v ≤ℤ pos 1099511627776 → FitsSigned w64 (v *ℤ pos (2 ^ q))
steps_fit q (pos n) l low high =
    let p : 2 ^ q < 2 ^ 16 = pow-lt l in
    let m : n * 2 ^ q ≤ 1099511627776 * 2 ^ q = mul-le-mul_right (2 ^ q) (omega (arith, ints, high)) in
    omega (arith, ints, m, p)
steps_fit q (negsuc n) l low high =
    let p : 2 ^ q < 2 ^ 16 = pow-lt l in
    let m : suc n * 2 ^ q ≤ 1099511627776 * 2 ^ q = mul-le-mul_right (2 ^ q) (omega (arith, ints, low)) in
    omega (arith, ints, m, p)

pub shl_steps : (q : ℕ) (v : ℤ) → q < 16 → FitsSigned w64 v → neg_ℤ (pos 1099511627776) ≤ℤ v → v ≤ℤ pos 1099511627776 → to_z w64 (of_z w64 v * 2 ^ q % 18446744073709551616) ≡ v *ℤ pos (2 ^ q)
shl_steps q v l f low high =
    let p : 2 ^ q < 2 ^ 16 = pow-lt l in
    wrapping_mul_is w64 v (pos (2 ^ q)) f (omega (arith, ints)) ∙ int_wrap_fits w64 (v *ℤ pos (2 ^ q)) (steps_fit q v l low high)
