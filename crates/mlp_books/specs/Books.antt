-- The codebooks. A book is the list of its codes, by symbol.
use Rattle.std.specs.Prelude.{◌≡◌, ℕ, zero, suc, ◌+◌, ◌*◌, ◌<◌, ◌≤◌, ◌^◌, ◌==◌, nat_le, ◌&&◌, ◌||◌, not, is_some, Bool, true, false, IsTrue, List, [], ◌∷◌, ◌++◌, length, drop, map, replicate, slice_index_or, Ok, Err, Option, Some, None, ◌⊎◌, if◌then◌else◌}
use Rattle.mlp_syntax.specs.declared.fault.Field.TheVariants as rule
use Rattle.mlp_syntax.specs.declared.fault.Field.{Field}
use Rattle.mlp_bits.specs.Bits.{bits}
use Rattle.mlp_bits.specs.Cursor.{Cursor}
use Rattle.mlp_layout.specs.Reading.{Read, Stands, broken}
use Rattle.mlp_layout.specs.Layout.{Layout, made}
use Rattle.std.specs.Prelude.{Result}

-- ---- the codes

-- a 1 behind so many zeros
abbrev pub one_behind : ℕ → List Bool
one_behind zeros = replicate zeros false ++ true ∷ []

-- the codes that all books begin with: a 1 behind 8 to 2 zeros
abbrev pub low_codes : List (List Bool)
low_codes = map one_behind (8 ∷ 7 ∷ 6 ∷ 5 ∷ 4 ∷ 3 ∷ 2 ∷ [])

-- the codes that all books end with: 01, and a 1 behind 0 to 6 zeros
abbrev pub high_codes : List (List Bool)
high_codes = map (λ zeros. false ∷ true ∷ one_behind zeros) (0 ∷ 1 ∷ 2 ∷ 3 ∷ 4 ∷ 5 ∷ 6 ∷ [])

-- 100, 101, 110 and 111 between them
unfoldable pub book1 : List (List Bool)
book1 = low_codes ++ (bits 3 4 ∷ bits 3 5 ∷ bits 3 6 ∷ bits 3 7 ∷ []) ++ high_codes

-- 10 and 11 between them
unfoldable pub book2 : List (List Bool)
book2 = low_codes ++ (bits 2 2 ∷ bits 2 3 ∷ []) ++ high_codes

-- 1 between them
unfoldable pub book3 : List (List Bool)
book3 = low_codes ++ (bits 1 1 ∷ []) ++ high_codes

-- the code of a symbol
abbrev pub code_of : List (List Bool) → ℕ → List Bool
code_of book symbol = slice_index_or book symbol []

-- the text begins with the code
unfoldable pub begins : List Bool → List Bool → Bool
begins [] text = true
begins (b ∷ code) [] = false
begins (true ∷ code) (true ∷ text) = begins code text
begins (true ∷ code) (false ∷ text) = false
begins (false ∷ code) (true ∷ text) = false
begins (false ∷ code) (false ∷ text) = begins code text

-- the nine bits of 0 and of 128, which begin with no code
abbrev pub IsNone : ℕ → Type 0
IsNone nine = (nine ≡ 0) ⊎ (nine ≡ 128)

-- no code begins another; two texts of nine bits begin with no code, and every other one does with one
pub record IsBook (book : List (List Bool)) : Type 0 where
  pub no_prefix : (s t : ℕ) → s < length book → t < length book
      → IsTrue (begins (code_of book s) (code_of book t)) → s ≡ t
  pub shortest : (s : ℕ) → s < length book → 1 ≤ length (code_of book s)
  pub longest : (s : ℕ) → s < length book → length (code_of book s) ≤ 9
  pub none : (nine s : ℕ) → IsNone nine → s < length book → begins (code_of book s) (bits 9 nine) ≡ false
  pub some : (nine : ℕ) → nine < 2 ^ 9 → (IsNone nine → ⊥)
      → (s : ℕ) × (s < length book) × IsTrue (begins (code_of book s) (bits 9 nine))

-- ---- a symbol as a text

-- the first symbol from `first` on whose code the text begins with
unfoldable pub find_symbol : List (List Bool) → ℕ → List Bool → Option ℕ
find_symbol [] first text = None
find_symbol (code ∷ codes) first text = if begins code text then Some first else find_symbol codes (suc first) text

-- nine bits that are no code stand here
abbrev pub NoCode : List Bool → ℕ → Type 0
NoCode all place = Stands all place (bits 9 0) ⊎ Stands all place (bits 9 128)

-- the bits end before a code ends, and before nine bits do
abbrev pub IsCut : List (List Bool) → List Bool → ℕ → Type 0
IsCut book all place =
    (length all < place + 9) × ((s : ℕ) → s < length book → Stands all place (code_of book s) → ⊥)

abbrev pub symbol_or_fault : List (List Bool) → Option ℕ → List Bool → ℕ → Read ℕ
symbol_or_fault book None all place = if nat_le (place + 9) (length all)
    then Err (broken rule.Code place) else Err (broken rule.SegmentShort place)
symbol_or_fault book (Some s) all place = Ok (s, place + length (code_of book s))

-- a symbol by its code
unfoldable pub symbol_of : List (List Bool) → Layout ℕ
symbol_of book = record {
  spelling = λ s. code_of book s;
  Fits = λ s. s < length book;
  Meets = λ s. Unit {0};
  Fails = λ all place e. (NoCode all place × (e ≡ broken rule.Code place))
      ⊎ (IsCut book all place × (e ≡ broken rule.SegmentShort place));
  read = λ all place. symbol_or_fault book (find_symbol book 0 (drop place all)) all place;
}

-- a symbol of the book with this number; book 0 has one symbol, whose code has no bits
unfoldable pub symbol_in : ℕ → Layout ℕ
symbol_in zero = made 0
symbol_in (suc zero) = symbol_of book1
symbol_in (suc (suc zero)) = symbol_of book2
symbol_in (suc (suc (suc book))) = symbol_of book3

-- what a function returned is what reading gives; the reader stands behind it, or is as it was
abbrev pub GivesSymbol : Cursor → Cursor → Result ℕ Field → Read ℕ → Type 0
GivesSymbol old new (Ok s) read = (read ≡ Ok (s, new.place)) × (new.all ≡ old.all) × (old.place ≤ new.place)
GivesSymbol old new (Err field) read = (read ≡ Err (broken field old.place)) × (new ≡ old)

-- ---- for reading by one look at nine bits

-- 256 times a symbol, plus the width of its code; 65535 for none
abbrev pub meaning : List (List Bool) → Option ℕ → ℕ
meaning book None = 65535
meaning book (Some s) = 256 * s + length (code_of book s)

abbrev pub meaning_of : List (List Bool) → List Bool → ℕ
meaning_of book text = meaning book (find_symbol book 0 text)

-- .. in the book with this number; book 0 has the symbol 0 alone, whose code has no bits
abbrev pub meaning_in : ℕ → ℕ → ℕ
meaning_in zero n = 0
meaning_in (suc zero) n = meaning_of book1 (bits 9 n)
meaning_in (suc (suc zero)) n = meaning_of book2 (bits 9 n)
meaning_in (suc (suc (suc book))) n = meaning_of book3 (bits 9 n)

-- how many bits the longest code of the book with this number has
abbrev pub longest_in : ℕ → ℕ
longest_in zero = 0
longest_in (suc book) = 9

-- ---- the laws of a book as tests

unfoldable pub all_below : ℕ → (ℕ → Bool) → Bool
all_below zero f = true
all_below (suc n) f = f n && all_below n f

unfoldable pub is_free : List (List Bool) → Bool
is_free book = all_below (length book)
    (λ s. all_below (length book) (λ t. not (begins (code_of book s) (code_of book t)) || (s == t)))

unfoldable pub is_wide : List (List Bool) → Bool
is_wide book = all_below (length book) (λ s. nat_le 1 (length (code_of book s)) && nat_le (length (code_of book s)) 9)

abbrev pub same_bool : Bool → Bool → Bool
same_bool true b = b
same_bool false b = not b

unfoldable pub is_whole : List (List Bool) → Bool
is_whole book = all_below 512 (λ n. same_bool (is_some (find_symbol book 0 (bits 9 n))) (not ((n == 0) || (n == 128))))

-- a book passes the tests
pub record Passes (book : List (List Bool)) : Type 0 where
  pub free : IsTrue (is_free book)
  pub wide : IsTrue (is_wide book)
  pub whole : IsTrue (is_whole book)
