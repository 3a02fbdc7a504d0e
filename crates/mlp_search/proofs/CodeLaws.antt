-- The code of a residual by division is its code, and the bits of residuals are those that their codes take.
use Rattle.std.proofs.Common.{◌≡◌, ℕ, ◌+◌, ◌*◌, ◌/◌, ◌%◌, ◌≤◌, ◌^◌, ℤ, pos, negsuc, ◌+ℤ◌, ◌-ℤ◌, ◌*ℤ◌, Bool, true, false, List, [], ◌∷◌, Option, Some, None, arith, refl, sym, ◌∙◌, ap}
use Rattle.std.specs.Prelude.{IfSome, IfNone, nat_lt, if◌then◌else◌}
use Rattle.std.specs.Ordering.{int_eq}
use Rattle.std.specs.Option.{option_map}
use Rattle.std.proofs.lemmas.Bool.{ltb-true, ltb-false}
use Rattle.std.proofs.lemmas.Bool.Decides.{Decides-int_eq}
use Rattle.std.proofs.Math.Nat.{mod-lt, mod-add-div}
use Rattle.std.proofs.Math.Pow.{pow_pos}
use lib.Pow.{high}
use Rattle.mlp_arith.specs.Words.{clear, floor_by}
use Rattle.mlp_syntax.specs.declared.segment.Code.{Code}
use Rattle.mlp_residual.specs.Coding.{symbols_of, sign_offset, Spells, length_of, TakeBits, Counts}
use Rattle.mlp_residual.proofs.Codes.{place_of, spelled, clear_whole}
use Rattle.mlp_search.specs.Cost.{code_at, code_for, sum_of, bits_for}

-- a code is that of a residual, or there is none
pub record Judges (book b : ℕ) (offset : ℤ) (step : ℕ) (r : ℤ) (o : Option Code) : Type 0 where
  pub some : IfSome o (λ c. Spells book b offset step r c)
  pub none : IfNone o ((code : Code) → Spells book b offset step r code → ⊥)

no_place : (book b step n : ℕ) (offset v r : ℤ) → v *ℤ pos (2 ^ step) ≡ r → v -ℤ offset +ℤ pos (sign_offset book b) ≡ negsuc n → (code : Code) → Spells book b offset step r code → ⊥
no_place book b step n offset v r e is code s =
    let k = place_of book b step code offset v r e s in
    let both : pos (code.symbol * 2 ^ b + code.low) ≡ negsuc n = sym k ∙ is in
    cc

past_all : (book b step p : ℕ) (offset v r : ℤ) → v *ℤ pos (2 ^ step) ≡ r → v -ℤ offset +ℤ pos (sign_offset book b) ≡ pos p → symbols_of book ≤ p / 2 ^ b → (code : Code) → Spells book b offset step r code → ⊥
past_all book b step p offset v r e is ge code s =
    let k = place_of book b step code offset v r e s in
    let both : pos p ≡ pos (code.symbol * 2 ^ b + code.low) = sym is ∙ k in
    let same : p ≡ code.symbol * 2 ^ b + code.low = cc in
    let symbol : p / 2 ^ b ≡ code.symbol = ap (λ (n : ℕ). n / 2 ^ b) same ∙ high code.symbol b s.low_in in
    omega (arith, symbol, ge, s.symbol_in)

at_place : (book b step : ℕ) (offset v r place : ℤ) → v *ℤ pos (2 ^ step) ≡ r → v -ℤ offset +ℤ pos (sign_offset book b) ≡ place → Judges book b offset step r (code_at book b place)
at_place book b step offset v r (negsuc n) e is = record { some = tt; none = no_place book b step n offset v r e is }
at_place book b step offset v r (pos p) e is = pick (nat_lt (p / 2 ^ b) (symbols_of book)) refl
  where
    pick : (t : Bool) → nat_lt (p / 2 ^ b) (symbols_of book) ≡ t → Judges book b offset step r (if t then Some (record { symbol = p / 2 ^ b; low = p % 2 ^ b }) else None)
    pick true lt =
        let whole : p / 2 ^ b * 2 ^ b + p % 2 ^ b ≡ p = omega (arith, mod-add-div p (2 ^ b)) in
        record {
          some = spelled book b step (record { symbol = p / 2 ^ b; low = p % 2 ^ b }) offset v r e (is ∙ ap pos (sym whole)) (ltb-true (p / 2 ^ b) (symbols_of book) lt) (mod-lt p (pow_pos b));
          none = tt;
        }
    pick false ge = record { some = tt; none = past_all book b step p offset v r e is (ltb-false (p / 2 ^ b) (symbols_of book) ge) }

pub code_judged : (book b : ℕ) (offset : ℤ) (step : ℕ) (r : ℤ) → Judges book b offset step r (code_for book b offset step r)
code_judged book b offset step r = pick (int_eq (clear step r) r) refl
  where
    pick : (t : Bool) → int_eq (clear step r) r ≡ t → Judges book b offset step r (if t then code_at book b (floor_by step r -ℤ offset +ℤ pos (sign_offset book b)) else None)
    pick true e = at_place book b step offset (floor_by step r) r (floor_by step r -ℤ offset +ℤ pos (sign_offset book b)) ((Decides-int_eq (clear step r) r).0 e) refl
    pick false e = record {
      some = tt;
      none = λ code s. let yes : int_eq (clear step r) r ≡ true = (Decides-int_eq (clear step r) r).1 (clear_whole step _ r s.value) in let n : true ≡ false = sym yes ∙ e in cc;
    }

-- ---- sums

counts_next : (book b : ℕ) (offset : ℤ) (step : ℕ) (r : ℤ) (rs : List ℤ) (o : Option Code) (n : Option ℕ) → Judges book b offset step r o → Counts book b offset step rs n
    → Counts book b offset step (r ∷ rs) (sum_of (option_map (length_of book b) o) n)
unfolding TakeBits
counts_next book b offset step r rs None n j later = λ m h. j.none h.0 h.2
counts_next book b offset step r rs (Some c) None j later = λ m h. later h.1 h.3
counts_next book b offset step r rs (Some c) (Some n) j later = (c, n, j.some, later, refl)

-- the bits by division are the count
pub bits_counted : (book b : ℕ) (offset : ℤ) (step : ℕ) (rs : List ℤ) → Counts book b offset step rs (bits_for book b offset step rs)
unfolding TakeBits
bits_counted book b offset step [] = refl
bits_counted book b offset step (r ∷ rs) = counts_next book b offset step r rs (code_for book b offset step r) (bits_for book b offset step rs) (code_judged book b offset step r) (bits_counted book b offset step rs)
