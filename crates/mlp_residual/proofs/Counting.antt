-- How many bits residuals take.
use Rattle.std.proofs.Common.{◌≡◌, ℕ, zero, suc, ◌+◌, ◌*◌, ◌/◌, ◌<◌, ◌≤◌, ◌^◌, ℤ, List, [], ◌∷◌, ◌++◌, length, arith, refl, sym, ◌∙◌, ap, subst}
use Rattle.std.proofs.lemmas.Int.{ints}
use lib.Pow.{high}
use Rattle.mlp_syntax.specs.declared.segment.Code.{Code}
use Rattle.mlp_layout.specs.Layout.{part, made, number_of}
use Rattle.mlp_books.specs.BookFacts.{counted1, counted2, counted3, passes1, passes2, passes3}
use Rattle.mlp_books.specs.Books.{book1, book2, book3, symbol_of, symbol_in}
use Rattle.mlp_books.proofs.TableLaws.{code_short, fits0, fits1, fits2, fits3}
use Rattle.std.specs.Prelude.{◌↔◌}
use Rattle.std.proofs.lemmas.List.{length-append}
use Rattle.mlp_bits.specs.Bits.{bits}
use Rattle.mlp_bits.proofs.BitLists.{length-bits}
use Rattle.mlp_residual.specs.Coding.{symbols_of, value_of, Spells, code_with, length_of, TakeBits}
use Rattle.mlp_residual.specs.Frames.{code}
use Rattle.mlp_residual.proofs.Codes.{place_of}

-- a residual has one code
pub same_code : (book b q : ℕ) (offset r : ℤ) (c d : Code) → Spells book b offset q r c → Spells book b offset q r d → c ≡ d
same_code book b q offset r c d s t =
    let v = value_of book b offset c in
    let place = place_of book b q d offset v r s.value t in
    let both : c.symbol * 2 ^ b + c.low ≡ d.symbol * 2 ^ b + d.low = omega (arith, ints, place) in
    let symbols : c.symbol ≡ d.symbol = sym (high c.symbol b s.low_in) ∙ ap (λ (n : ℕ). n / 2 ^ b) both ∙ high d.symbol b t.low_in in
    let lows : c.low ≡ d.low = let e : c.symbol * 2 ^ b ≡ d.symbol * 2 ^ b = ap (λ (n : ℕ). n * 2 ^ b) symbols in omega arith in
    ap (λ (n : ℕ). made_of n c.low) symbols ∙ ap (made_of d.symbol) lows
  where
    made_of : ℕ → ℕ → Code
    made_of symbol low = record { symbol = symbol; low = low }

-- a code takes the bits of its symbol and the low bits
pub length_is : (book b : ℕ) (c : Code) → length_of book b c ≡ length ((symbol_in book).spelling c.symbol) + b
unfolding code part made number_of
length_is book b c = omega (arith, length-append ((symbol_in book).spelling c.symbol) (bits b c.low ++ []), length-append (bits b c.low) [], length-bits b c.low)

pub symbols_fit : (book s : ℕ) → (symbol_in book).Fits s ↔ (s < symbols_of book)
unfolding symbol_in
symbols_fit zero s = fits0 s
symbols_fit (suc zero) s = fits1 s
symbols_fit (suc (suc zero)) s = fits2 s
symbols_fit (suc (suc (suc book))) s = fits3 s

-- a code that spells a residual has a spelling
pub spelled_fits : (book b step : ℕ) (offset r : ℤ) (c : Code) → Spells book b offset step r c → (code_with book b).Fits c
unfolding code part made number_of
spelled_fits book b step offset r c s = ((symbols_fit book c.symbol).1 s.symbol_in, (s.low_in, refl))

-- one residual takes so many bits
pub record Takes (book b : ℕ) (offset : ℤ) (step : ℕ) (r : ℤ) (n : ℕ) : Type 0 where
  pub code : Code
  pub spells : Spells book b offset step r code
  pub bits : n ≡ length_of book b code

-- so many bits are counted for the first residuals
pub record Counted (book b : ℕ) (offset : ℤ) (step : ℕ) (all left : List ℤ) (bits : ℕ) : Type 0 where
  pub whole : (m : ℕ) → TakeBits book b offset step left m → TakeBits book b offset step all (bits + m)
  pub rest : (n : ℕ) → TakeBits book b offset step all n → (m : ℕ) × TakeBits book b offset step left m × (n ≡ bits + m)

pub counted_one : (book b : ℕ) (offset : ℤ) (step : ℕ) (all left later : List ℤ) (r : ℤ) (bits n : ℕ) → left ≡ r ∷ later → Takes book b offset step r n → Counted book b offset step all left bits
    → Counted book b offset step all later (bits + n)
unfolding TakeBits
counted_one book b offset step all left later r bits n is t k = record {
  whole = λ m h.
      let e : bits + (n + m) ≡ bits + n + m = omega arith in
      subst (λ (j : ℕ). TakeBits book b offset step all j) e (k.whole (n + m) (subst (λ (xs : List ℤ). TakeBits book b offset step xs (n + m)) (sym is) (t.code, m, t.spells, h, ap (λ (j : ℕ). j + m) t.bits)));
  rest = λ j h.
      let a = k.rest j h in
      let taken = subst (λ (xs : List ℤ). TakeBits book b offset step xs a.0) is a.1 in
      let same = ap (λ (c : Code). length_of book b c) (same_code book b step offset r taken.0 t.code taken.2 t.spells) in
      (taken.1, taken.3, omega (arith, a.2, taken.4, same, t.bits));
}

-- a residual without a code
pub counted_never : (book b : ℕ) (offset : ℤ) (step : ℕ) (all left later : List ℤ) (r : ℤ) (bits : ℕ) → left ≡ r ∷ later
    → ((code : Code) → Spells book b offset step r code → ⊥) → Counted book b offset step all left bits
    → (n : ℕ) → TakeBits book b offset step all n → ⊥
unfolding TakeBits
counted_never book b offset step all left later r bits is none k n h =
    let a = k.rest n h in
    let taken = subst (λ (xs : List ℤ). TakeBits book b offset step xs a.0) is a.1 in
    none taken.0 taken.2

pub counted_all : (book b : ℕ) (offset : ℤ) (step : ℕ) (all left : List ℤ) (bits : ℕ) → left ≡ [] → Counted book b offset step all left bits → TakeBits book b offset step all bits
unfolding TakeBits
counted_all book b offset step all left bits is k =
    let e : bits + 0 ≡ bits = omega arith in
    subst (λ (j : ℕ). TakeBits book b offset step all j) e (k.whole 0 (subst (λ (xs : List ℤ). TakeBits book b offset step xs 0) (sym is) refl))

-- the number of bits is the only one
pub same_bits : (book b : ℕ) (offset : ℤ) (step : ℕ) (all : List ℤ) (m n : ℕ) → TakeBits book b offset step all m → TakeBits book b offset step all n → m ≡ n
unfolding TakeBits
same_bits book b offset step [] m n h k = h ∙ sym k
same_bits book b offset step (r ∷ rs) m n h k =
    let later = same_bits book b offset step rs h.1 k.1 h.3 k.3 in
    let same = ap (λ (c : Code). length_of book b c) (same_code book b step offset r h.0 k.0 h.2 k.2) in
    omega (arith, h.4, k.4, later, same)

-- a code has at most nine bits
pub most_length : (book s : ℕ) → s < symbols_of book → length ((symbol_in book).spelling s) ≤ 9
unfolding symbol_in symbol_of made
most_length zero s lt = omega arith
most_length (suc zero) s lt = code_short book1 passes1 s (omega (arith, counted1))
most_length (suc (suc zero)) s lt = code_short book2 passes2 s (omega (arith, counted2))
most_length (suc (suc (suc book))) s lt = code_short book3 passes3 s (omega (arith, counted3))
