-- A signed number of at most 32 bits is an `i32`.
use Rattle.std.proofs.Common.{◌≡◌, ℕ, zero, suc, [], Option, Some, None, refl, ◌-◌, ◌*◌, ◌/◌, ◌^◌, ◌<◌, ◌≤◌, ℤ, pos, negsuc, ap, subst, arith, inl, inr, pow-suc}
use Rattle.std.proofs.lemmas.Bool.{cases_lt, lt-ltb, le-ltb}
use Rattle.std.proofs.Math.Pow.{pow_mono}
use Rattle.std.proofs.lemmas.Int.{to_z-of_z}
use mir.Val.{SFits, to_z, of_z}
use mir.Syntax.{w16, w32}
use Rattle.mlp_bits.specs.Bits.{bits}
use Rattle.mlp_layout.specs.Layout.{seen, number_of, spelling_as, FitsAs}
use Rattle.mlp_layout.specs.Combined.{signed_of}
use Rattle.mlp_bits.specs.Signed.{signed, unsigned, HasBits}

pub fits_32 : (w : ℕ) (z : ℤ) → w ≤ 32 → HasBits w z → SFits w32 z
fits_32 w (pos n) le h = let le31 : w - 1 ≤ 31 = omega arith in let m : 2 ^ (w - 1) ≤ 2 ^ 31 = pow_mono le31 in record { sfits = omega arith }
fits_32 w (negsuc n) le h = let m : 2 ^ w ≤ 2 ^ 32 = pow_mono le in record { sfits = omega arith }

pub signed_fits : (w n : ℕ) → n < 2 ^ w → HasBits w (signed w n)
signed_fits zero n h = let e : n ≡ 0 = omega arith in rw e (omega arith)
signed_fits (suc w) n h =
    let two : 2 ^ suc w ≡ 2 ^ w * 2 = pow-suc 2 w in
    let less : 2 ^ (suc w - 1) ≡ 2 ^ w = ap (λ (k : ℕ). 2 ^ k) (let e : suc w - 1 ≡ w = omega arith in e) in
    elim (cases_lt n (2 ^ (suc w - 1))) [
      | inl lt ↦ rw (lt-ltb n (2 ^ (suc w - 1)) lt) lt
      | inr le ↦ rw (le-ltb n (2 ^ (suc w - 1)) le) (upper le two less)
    ]
  where
    upper : 2 ^ (suc w - 1) ≤ n → 2 ^ suc w ≡ 2 ^ w * 2 → 2 ^ (suc w - 1) ≡ 2 ^ w → 2 ^ suc w - suc n < 2 ^ suc w / 2
    upper le two same = omega arith

no_spelling : (o : Option ℕ) → spelling_as (bits 0) o ≡ []
unfolding bits
no_spelling None = refl
no_spelling (Some n) = refl

pub no_bits : (z : ℤ) → (signed_of 0).spelling z ≡ []
unfolding signed_of seen number_of
no_bits z = no_spelling (unsigned 0 z)

pub stands_for : (w : ℕ) (o : Option ℕ) (z : ℤ) → FitsAs (signed w) (λ n. n < 2 ^ w) o z → HasBits w z
stands_for w None z h = absurd h
stands_for w (Some n) z h = subst (HasBits w) h.1 (signed_fits w n h.0)

-- a value that such a field may hold is kept by an `i32`
pub kept : (w : ℕ) (z : ℤ) → w ≤ 32 → (signed_of w).Fits z → to_z w32 (of_z w32 z) ≡ z
unfolding signed_of seen number_of
kept w z le h = to_z-of_z w32 z (fits_32 w z le (stands_for w (unsigned w z) z h))

fits_16 : (w : ℕ) (z : ℤ) → w ≤ 16 → HasBits w z → SFits w16 z
fits_16 w (pos n) le h = let le15 : w - 1 ≤ 15 = omega arith in let m : 2 ^ (w - 1) ≤ 2 ^ 15 = pow_mono le15 in record { sfits = omega arith }
fits_16 w (negsuc n) le h = let m : 2 ^ w ≤ 2 ^ 16 = pow_mono le in record { sfits = omega arith }

pub kept_16 : (w : ℕ) (z : ℤ) → w ≤ 16 → (signed_of w).Fits z → to_z w16 (of_z w16 z) ≡ z
unfolding signed_of seen number_of
kept_16 w z le h = to_z-of_z w16 z (fits_16 w z le (stands_for w (unsigned w z) z h))
