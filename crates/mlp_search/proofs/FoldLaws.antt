-- A value has a code where its folded value is small enough, and the code's length is told by it.
use Rattle.std.proofs.Common.{◌≡◌, ℕ, zero, suc, ◌+◌, ◌-◌, ◌*◌, ◌/◌, ◌%◌, ◌^◌, ◌<◌, ◌≤◌, ℤ, pos, negsuc, ◌+ℤ◌, Bool, true, List, length, get_or, map, Option, Some, None, arith, refl, sym, ◌∙◌, ap, inl, inr}
use Rattle.std.specs.Prelude.{nat_lt, if◌then◌else◌}
use Rattle.std.specs.Option.{option_map}
use Rattle.std.specs.List.{range_with_len}
use Rattle.std.proofs.lemmas.Int.{ints}
use Rattle.std.proofs.lemmas.Bool.{cases_lt, lt-ltb, le-ltb}
use Rattle.std.proofs.lemmas.Nat.{div-mul-add, div-add-mod'}
use Rattle.std.proofs.lemmas.List.FromFn.{get_or-map-range_with_len}
use Rattle.std.proofs.Math.Nat.{mod-lt, add-mul-div_right, div-div-eq-div-mul}
use Rattle.std.proofs.Math.Pow.{pow_pos}
use Rattle.mlp_books.specs.Books.{book1, book2, book3, symbol_of, symbol_in}
use Rattle.mlp_bits.specs.Bits.{bits}
use Rattle.mlp_layout.specs.Layout.{made}
use Rattle.mlp_syntax.specs.declared.segment.Code.{Code}
use Rattle.mlp_residual.specs.Coding.{symbols_of, sign_offset, length_of}
use Rattle.mlp_residual.proofs.Counting.{length_is}
use Rattle.mlp_search.specs.Cost.{code_at}
use Rattle.mlp_search.specs.Folded.{folded, symbol_bits}

-- ---- lengths by tables

abbrev spelled : ℕ → ℕ → ℕ
spelled book s = length ((symbol_in book).spelling s)

pub same_at : (f g : ℕ → ℕ) (n : ℕ) → map f (range_with_len 0 n) ≡ map g (range_with_len 0 n) → (i : ℕ) → i < n → f i ≡ g i
same_at f g n e i h =
    sym (get_or-map-range_with_len f 0 n i i 0 h (omega arith)) ∙ ap (λ (xs : List ℕ). get_or xs i 0) e ∙ get_or-map-range_with_len g 0 n i i 0 h (omega arith)

above1 : (p : ℕ) → p < 18 → spelled 1 ((p + 18) / 2) ≡ symbol_bits 1 p
unfolding book1 bits symbol_in symbol_of
above1 = same_at (λ p. spelled 1 ((p + 18) / 2)) (symbol_bits 1) 18 refl

below1 : (p : ℕ) → p < 18 → spelled 1 ((18 - 1 - p) / 2) ≡ symbol_bits 1 p
unfolding book1 bits symbol_in symbol_of
below1 = same_at (λ p. spelled 1 ((18 - 1 - p) / 2)) (symbol_bits 1) 18 refl

above2 : (p : ℕ) → p < 16 → spelled 2 ((p + 16) / 2) ≡ symbol_bits 2 p
unfolding book2 bits symbol_in symbol_of
above2 = same_at (λ p. spelled 2 ((p + 16) / 2)) (symbol_bits 2) 16 refl

below2 : (p : ℕ) → p < 16 → spelled 2 ((16 - 1 - p) / 2) ≡ symbol_bits 2 p
unfolding book2 bits symbol_in symbol_of
below2 = same_at (λ p. spelled 2 ((16 - 1 - p) / 2)) (symbol_bits 2) 16 refl

above3 : (p : ℕ) → p < 15 → spelled 3 ((p + 15) / 2) ≡ symbol_bits 3 p
unfolding book3 bits symbol_in symbol_of
above3 = same_at (λ p. spelled 3 ((p + 15) / 2)) (symbol_bits 3) 15 refl

below3 : (p : ℕ) → p < 15 → spelled 3 ((15 - 1 - p) / 2) ≡ symbol_bits 3 p
unfolding book3 bits symbol_in symbol_of
below3 = same_at (λ p. spelled 3 ((15 - 1 - p) / 2)) (symbol_bits 3) 15 refl

-- the symbols of values from 0 on
above : (book p : ℕ) → p < symbols_of book → spelled book ((p + symbols_of book) / 2) ≡ symbol_bits book p
unfolding symbol_in made
above zero p lt = refl
above (suc zero) p lt = above1 p lt
above (suc (suc zero)) p lt = above2 p lt
above (suc (suc (suc book))) p lt = above3 p lt

-- .. and of those below 0
below : (book p : ℕ) → p < symbols_of book → spelled book ((symbols_of book - 1 - p) / 2) ≡ symbol_bits book p
unfolding symbol_in made
below zero p lt = refl
below (suc zero) p lt = below1 p lt
below (suc (suc zero)) p lt = below2 p lt
below (suc (suc (suc book))) p lt = below3 p lt

-- ---- symbols by division

-- half of the range of a book lies below 0
offset_half : (book b : ℕ) → sign_offset book b ≡ symbols_of book * 2 ^ b / 2
offset_half zero b = omega arith
offset_half (suc zero) b = omega arith
offset_half (suc (suc zero)) b = omega arith
offset_half (suc (suc (suc book))) b = omega arith

turned : (m d : ℕ) → m / 2 / d ≡ m / d / 2
turned m d = div-div-eq-div-mul m 2 d ∙ ap (λ (k : ℕ). m / k) (let e : 2 * d ≡ d * 2 = omega arith in e) ∙ sym (div-div-eq-div-mul m d 2)

symbol_above : (s b n : ℕ) → (n + s * 2 ^ b / 2) / 2 ^ b ≡ (2 * n / 2 ^ b + s) / 2
symbol_above s b n =
    let whole : n + s * 2 ^ b / 2 ≡ (2 * n + s * 2 ^ b) / 2 = omega arith in
    ap (λ (m : ℕ). m / 2 ^ b) whole
    ∙ turned (2 * n + s * 2 ^ b) (2 ^ b)
    ∙ ap (λ (m : ℕ). m / 2) (add-mul-div_right (2 * n) s (pow_pos b))

-- u below s * d counted from above
from_above : (s d u : ℕ) → 0 < d → u / d < s → (s * d - 1 - u) / d ≡ s - 1 - u / d
from_above s d u some lt =
    let p = u / d in
    let whole : u / d * d + u % d ≡ u = div-add-mod' u d in
    let rest : u % d < d = mod-lt u some in
    let parts : s * d ≡ (s - 1 - u / d) * d + u / d * d + d =
    ap (λ (k : ℕ). k * d) (let e : s ≡ s - 1 - u / d + u / d + 1 = omega (arith, lt) in e) ∙ omega arith
    in
    ap (λ (m : ℕ). m / d) (let e : s * d - 1 - u ≡ (s - 1 - u / d) * d + (d - 1 - u % d) = omega (arith, whole, rest, parts) in e)
    ∙ div-mul-add (s - 1 - u / d) d (d - 1 - u % d) (omega (arith, rest, some))

symbol_below : (s b n : ℕ) → (2 * n + 1) / 2 ^ b < s → (s * 2 ^ b / 2 - 1 - n) / 2 ^ b ≡ (s - 1 - (2 * n + 1) / 2 ^ b) / 2
symbol_below s b n lt =
    let whole : s * 2 ^ b / 2 - 1 - n ≡ (s * 2 ^ b - 1 - (2 * n + 1)) / 2 = omega arith in
    ap (λ (m : ℕ). m / 2 ^ b) whole
    ∙ turned (s * 2 ^ b - 1 - (2 * n + 1)) (2 ^ b)
    ∙ ap (λ (m : ℕ). m / 2) (from_above s (2 ^ b) (2 * n + 1) (pow_pos b) lt)

-- ---- the length of a code

at_symbol : (book b place s n : ℕ) → place / 2 ^ b ≡ s → s < symbols_of book → spelled book s ≡ n → option_map (length_of book b) (code_at book b (pos place)) ≡ Some (b + n)
at_symbol book b place s n e lt is =
    let code : Code = record { symbol = place / 2 ^ b; low = place % 2 ^ b } in
    let t : nat_lt (place / 2 ^ b) (symbols_of book) ≡ true = lt-ltb (place / 2 ^ b) (symbols_of book) (omega (arith, e, lt)) in
    let size : length_of book b code ≡ b + n = omega (arith, length_is book b code, ap (spelled book) e, is) in
    ap (λ (t : Bool). option_map (length_of book b) (if t then Some code else None)) t ∙ ap Some size

at_none : (book b place : ℕ) → symbols_of book ≤ place / 2 ^ b → option_map (length_of book b) (code_at book b (pos place)) ≡ None
at_none book b place le =
    let code : Code = record { symbol = place / 2 ^ b; low = place % 2 ^ b } in
    ap (λ (t : Bool). option_map (length_of book b) (if t then Some code else None)) (le-ltb (place / 2 ^ b) (symbols_of book) le)

abbrev pub told : ℕ → ℕ → ℕ → Option ℕ
told book b p = if nat_lt p (symbols_of book) then Some (b + symbol_bits book p) else None

pub told_some : (book b p : ℕ) → p < symbols_of book → told book b p ≡ Some (b + symbol_bits book p)
told_some book b p lt = ap (λ (t : Bool). if t then Some (b + symbol_bits book p) else None) (lt-ltb p (symbols_of book) lt)

pub told_none : (book b p : ℕ) → symbols_of book ≤ p → told book b p ≡ None
told_none book b p le = ap (λ (t : Bool). if t then Some (b + symbol_bits book p) else None) (le-ltb p (symbols_of book) le)

-- from 0 on
length_above : (book b n : ℕ) → option_map (length_of book b) (code_at book b (pos n +ℤ pos (sign_offset book b))) ≡ told book b (2 * n / 2 ^ b)
length_above book b n =
    let s = symbols_of book in
    let p = 2 * n / 2 ^ b in
    let place : pos n +ℤ pos (sign_offset book b) ≡ pos (n + symbols_of book * 2 ^ b / 2) = ap (λ (k : ℕ). pos (n + k)) (offset_half book b) in
    let symbol = symbol_above (symbols_of book) b n in
    ap (λ (z : ℤ). option_map (length_of book b) (code_at book b z)) place
    ∙ (elim (cases_lt (2 * n / 2 ^ b) (symbols_of book)) [
      | inl lt ↦
          at_symbol book b (n + symbols_of book * 2 ^ b / 2) ((2 * n / 2 ^ b + symbols_of book) / 2) (symbol_bits book (2 * n / 2 ^ b)) symbol (omega (arith, lt)) (above book (2 * n / 2 ^ b) lt)
          ∙ sym (told_some book b (2 * n / 2 ^ b) lt)
      | inr ge ↦ at_none book b (n + symbols_of book * 2 ^ b / 2) (omega (arith, symbol, ge)) ∙ sym (told_none book b (2 * n / 2 ^ b) ge)
    ])

-- u over d is below s exactly where u is below s * d
pub quotient_below : (s d u : ℕ) → 0 < d → u / d < s → u < s * d
quotient_below s d u some lt =
    let whole : u / d * d + u % d ≡ u = div-add-mod' u d in
    let rest : u % d < d = mod-lt u some in
    let parts : s * d ≡ (s - 1 - u / d) * d + u / d * d + d =
    ap (λ (k : ℕ). k * d) (let e : s ≡ s - 1 - u / d + u / d + 1 = omega (arith, lt) in e) ∙ omega arith
    in
    omega (arith, whole, rest, parts)

pub quotient_above : (s d u : ℕ) → s ≤ u / d → s * d ≤ u
quotient_above s d u le =
    let whole : u / d * d + u % d ≡ u = div-add-mod' u d in
    let parts : u / d * d ≡ (u / d - s) * d + s * d = ap (λ (k : ℕ). k * d) (let e : u / d ≡ u / d - s + s = omega (arith, le) in e) ∙ omega arith in
    omega (arith, whole, parts)

-- below 0
length_below : (book b n : ℕ) → option_map (length_of book b) (code_at book b (negsuc n +ℤ pos (sign_offset book b))) ≡ told book b ((2 * n + 1) / 2 ^ b)
length_below book b n = elim (cases_lt ((2 * n + 1) / 2 ^ b) (symbols_of book)) [
  | inl lt ↦
      let small = quotient_below (symbols_of book) (2 ^ b) (2 * n + 1) (pow_pos b) lt in
      let place : negsuc n +ℤ pos (sign_offset book b) ≡ pos (symbols_of book * 2 ^ b / 2 - 1 - n) = omega (arith, ints, offset_half book b, small) in
      let symbol = symbol_below (symbols_of book) b n lt in
      ap (λ (z : ℤ). option_map (length_of book b) (code_at book b z)) place
      ∙ at_symbol book b (symbols_of book * 2 ^ b / 2 - 1 - n) ((symbols_of book - 1 - (2 * n + 1) / 2 ^ b) / 2) (symbol_bits book ((2 * n + 1) / 2 ^ b)) symbol (omega (arith, lt)) (below book ((2 * n + 1) / 2 ^ b) lt)
      ∙ sym (told_some book b ((2 * n + 1) / 2 ^ b) lt)
  | inr ge ↦
      let great = quotient_above (symbols_of book) (2 ^ b) (2 * n + 1) ge in
      let place : negsuc n +ℤ pos (sign_offset book b) ≡ negsuc (n - symbols_of book * 2 ^ b / 2) = omega (arith, ints, offset_half book b, great) in
      ap (λ (z : ℤ). option_map (length_of book b) (code_at book b z)) place ∙ sym (told_none book b ((2 * n + 1) / 2 ^ b) ge)
]

-- the length of the code of a value that is moved by the offset
pub length_told : (book b : ℕ) (x : ℤ) → option_map (length_of book b) (code_at book b (x +ℤ pos (sign_offset book b))) ≡ told book b (folded x / 2 ^ b)
length_told book b (pos n) = length_above book b n
length_told book b (negsuc n) = length_below book b n
