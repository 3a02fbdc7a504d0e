-- What stands in the tables.
use Rattle.std.proofs.Common.{◌≡◌, ℕ, zero, suc, ◌<◌, ◌≤◌, Bool, List, length, get_or, map, take, drop, refl, sym, ap, ◌∙◌, ◌+◌, ◌*◌, arith}
use Rattle.std.specs.Prelude.{◌↔◌}
use Rattle.std.specs.List.{range_with_len}
use Rattle.std.proofs.lemmas.List.{get_or-drop, get_or-take}
use Rattle.std.proofs.lemmas.List.FromFn.{get_or-map-range_with_len}
use Rattle.mlp_bits.specs.Bits.{bits, number}
use Rattle.mlp_layout.specs.Layout.{made}
use Rattle.mlp_books.specs.BookFacts.{counted1, counted2, counted3}
use Rattle.mlp_books.specs.Books.{book1, book2, book3, code_of, meaning_of, meaning_in, begins, find_symbol, symbol_of, symbol_in, Passes}
use Rattle.mlp_books.specs.declared.tables.TheConstants.{PATTERNS1, PATTERNS2, PATTERNS3, WIDTHS0, WIDTHS1, WIDTHS2, WIDTHS3, MEANINGS}
use Rattle.mlp_books.proofs.BookLaws.{book_is}

at_place : (xs : List ℕ) (f : ℕ → ℕ) (n : ℕ) → xs ≡ map f (range_with_len 0 n) → (i : ℕ) → i < n → get_or xs i 0 ≡ f i
at_place xs f n e i h = ap (λ (t : List ℕ). get_or t i 0) e ∙ get_or-map-range_with_len f 0 n i i 0 h (omega arith)

pub pattern1 : (s : ℕ) → s < 18 → get_or PATTERNS1 s 0 ≡ number (code_of book1 s)
unfolding book1 bits number
pattern1 = at_place PATTERNS1 (λ s. number (code_of book1 s)) 18 refl

pub pattern2 : (s : ℕ) → s < 16 → get_or PATTERNS2 s 0 ≡ number (code_of book2 s)
unfolding book2 bits number
pattern2 = at_place PATTERNS2 (λ s. number (code_of book2 s)) 16 refl

pub pattern3 : (s : ℕ) → s < 15 → get_or PATTERNS3 s 0 ≡ number (code_of book3 s)
unfolding book3 bits number
pattern3 = at_place PATTERNS3 (λ s. number (code_of book3 s)) 15 refl

pub width1 : (s : ℕ) → s < 18 → get_or WIDTHS1 s 0 ≡ length (code_of book1 s)
unfolding book1 bits
width1 = at_place WIDTHS1 (λ s. length (code_of book1 s)) 18 refl

pub width2 : (s : ℕ) → s < 16 → get_or WIDTHS2 s 0 ≡ length (code_of book2 s)
unfolding book2 bits
width2 = at_place WIDTHS2 (λ s. length (code_of book2 s)) 16 refl

pub width3 : (s : ℕ) → s < 15 → get_or WIDTHS3 s 0 ≡ length (code_of book3 s)
unfolding book3 bits
width3 = at_place WIDTHS3 (λ s. length (code_of book3 s)) 15 refl

-- a code has at most nine bits
pub code_short : (book : List (List Bool)) → Passes book → (s : ℕ) → s < length book → length (code_of book s) ≤ 9
code_short book p = (book_is p).longest

-- the widths by number of the book
pub widths0 : (s : ℕ) → (symbol_in 0).Fits s → get_or WIDTHS0 s 0 ≡ length ((symbol_in 0).spelling s)
unfolding symbol_in made
widths0 s h = rw h refl

pub widths1 : (s : ℕ) → (symbol_in 1).Fits s → get_or WIDTHS1 s 0 ≡ length ((symbol_in 1).spelling s)
unfolding symbol_in symbol_of
widths1 s h = width1 s (omega (arith, counted1, h))

pub widths2 : (s : ℕ) → (symbol_in 2).Fits s → get_or WIDTHS2 s 0 ≡ length ((symbol_in 2).spelling s)
unfolding symbol_in symbol_of
widths2 s h = width2 s (omega (arith, counted2, h))

pub widths3 : (s : ℕ) → (symbol_in 3).Fits s → get_or WIDTHS3 s 0 ≡ length ((symbol_in 3).spelling s)
unfolding symbol_in symbol_of
widths3 s h = width3 s (omega (arith, counted3, h))

pub fits0 : (s : ℕ) → (symbol_in 0).Fits s ↔ (s < 1)
unfolding symbol_in made
fits0 s = (λ h. omega (arith, h), λ h. omega (arith, h))

pub fits1 : (s : ℕ) → (symbol_in 1).Fits s ↔ (s < 18)
unfolding symbol_in symbol_of
fits1 s = (λ h. omega (arith, counted1, h), λ h. omega (arith, counted1, h))

pub fits2 : (s : ℕ) → (symbol_in 2).Fits s ↔ (s < 16)
unfolding symbol_in symbol_of
fits2 s = (λ h. omega (arith, counted2, h), λ h. omega (arith, counted2, h))

pub fits3 : (s : ℕ) → (symbol_in 3).Fits s ↔ (s < 15)
unfolding symbol_in symbol_of
fits3 s = (λ h. omega (arith, counted3, h), λ h. omega (arith, counted3, h))

-- what nine bits say, by number of the book
part_at : (f : ℕ → ℕ) (book : ℕ) → take 512 (drop (512 * book) MEANINGS) ≡ map f (range_with_len 0 512) → (n : ℕ) → n < 512 → get_or MEANINGS (512 * book + n) 0 ≡ f n
part_at f book e n h =
    sym (get_or-drop (512 * book) MEANINGS n 0) ∙ sym (get_or-take 512 (drop (512 * book) MEANINGS) n 0 h) ∙ at_place (take 512 (drop (512 * book) MEANINGS)) f 512 e n h

meanings0 : (n : ℕ) → n < 512 → get_or MEANINGS (512 * 0 + n) 0 ≡ meaning_in 0 n
meanings0 = part_at (λ n. 0) 0 refl

pub meanings1 : (n : ℕ) → n < 512 → get_or MEANINGS (512 * 1 + n) 0 ≡ meaning_in 1 n
unfolding book1 bits find_symbol begins
meanings1 = part_at (λ n. meaning_of book1 (bits 9 n)) 1 refl

pub meanings2 : (n : ℕ) → n < 512 → get_or MEANINGS (512 * 2 + n) 0 ≡ meaning_in 2 n
unfolding book2 bits find_symbol begins
meanings2 = part_at (λ n. meaning_of book2 (bits 9 n)) 2 refl

pub meanings3 : (n : ℕ) → n < 512 → get_or MEANINGS (512 * 3 + n) 0 ≡ meaning_in 3 n
unfolding book3 bits find_symbol begins
meanings3 = part_at (λ n. meaning_of book3 (bits 9 n)) 3 refl

pub meanings_by_number : (book n : ℕ) → book ≤ 3 → n < 512 → get_or MEANINGS (512 * book + n) 0 ≡ meaning_in book n
meanings_by_number zero n le = meanings0 n
meanings_by_number (suc zero) n le = meanings1 n
meanings_by_number (suc (suc zero)) n le = meanings2 n
meanings_by_number (suc (suc (suc zero))) n le = meanings3 n
meanings_by_number (suc (suc (suc (suc book)))) n le = absurd (omega (arith, le))

pub meanings_count : length MEANINGS ≡ 2048
meanings_count = refl
