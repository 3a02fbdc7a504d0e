-- Which numbers of low bits are left, by the width of the greatest folded value.
use Rattle.std.proofs.Common.{◌≡◌, ℕ, zero, suc, ◌+◌, ◌-◌, ◌*◌, ◌/◌, ◌^◌, ◌<◌, ◌≤◌, List, length, arith, refl, subst, inl, inr}
use Rattle.std.specs.Prelude.{min, ◌⊎◌}
use Rattle.std.proofs.lemmas.Bool.{cases_lt, lt-ltb, le-ltb}
use Rattle.std.proofs.Math.Nat.{mul-le-mul_left}
use Rattle.mlp_residual.specs.Coding.{symbols_of}
use Rattle.mlp_search.specs.Folded.{symbol_bits, top_of, all_symbol_bits, raised_sum}
use Rattle.mlp_search.specs.Tally.{IsCounted}
use Rattle.mlp_search.proofs.BoundLaws.{wide_none}
use Rattle.mlp_search.proofs.FoldSums.{bound_of, fewest_any, least_symbols}

-- the least power of 2 that is no less than the number of symbols
abbrev pub room_of : ℕ → ℕ
room_of zero = 0
room_of (suc zero) = 5
room_of (suc (suc book)) = 4

pub few_symbols : (book : ℕ) → symbols_of book ≤ 2 ^ room_of book
few_symbols zero = omega arith
few_symbols (suc zero) = omega arith
few_symbols (suc (suc zero)) = omega arith
few_symbols (suc (suc (suc book))) = omega arith

pub room_later : (book : ℕ) → 2 ≤ book → room_of book ≡ 4
room_later zero le = absurd (omega (arith, le))
room_later (suc zero) le = absurd (omega (arith, le))
room_later (suc (suc book)) le = refl

-- the bits of the shortest symbols
abbrev least_symbol : ℕ → ℕ
least_symbol zero = 0
least_symbol (suc zero) = 3
least_symbol (suc (suc zero)) = 2
least_symbol (suc (suc (suc book))) = 1

least_first : (p : ℕ) → 3 ≤ symbol_bits 1 p
least_first p = elim (cases_lt p 2) [
  | inl two ↦ let a = lt-ltb p 2 two in let b = lt-ltb p 4 (omega (arith, two)) in rw (a, b) (omega arith)
  | inr from ↦ elim (cases_lt p 4) [
    | inl four ↦ let a = le-ltb p 2 from in let b = lt-ltb p 4 four in rw (a, b) (omega (arith, from))
    | inr on ↦ let a = le-ltb p 2 from in let b = le-ltb p 4 on in rw (a, b) (omega (arith, on))
  ]
]

least_third : (book p : ℕ) → 1 ≤ symbol_bits (suc (suc (suc book))) p
least_third book p = elim (cases_lt p 1) [
  | inl none ↦ let a = lt-ltb p 1 none in rw a (omega (arith, none))
  | inr some ↦ let a = le-ltb p 1 some in rw a (omega (arith, some))
]

symbol_least : (book p : ℕ) → least_symbol book ≤ symbol_bits book p
symbol_least zero p = omega arith
symbol_least (suc zero) p = least_first p
symbol_least (suc (suc zero)) p = omega arith
symbol_least (suc (suc (suc book))) p = least_third book p

-- ---- the low bits of a book that are left

some_room : (book b w : ℕ) (us : List ℕ) → 2 ^ w ≤ 2 * top_of us + 1 → top_of us / 2 ^ b < symbols_of book → w ≤ b + room_of book
some_room book b w us under codes = elim (cases_lt (b + room_of book) w) [
  | inl lt ↦ absurd (omega (arith, codes, wide_none (top_of us) w b (symbols_of book) (room_of book) under (few_symbols book) (omega (arith, lt))))
  | inr ge ↦ ge
]

-- Where there are codes they take as many bits as without a book, or the low bits lie in a range.
pub left_over : (book b w : ℕ) (us : List ℕ) → 2 ^ w ≤ 2 * top_of us + 1 → top_of us / 2 ^ b < symbols_of book
    → (length us * w ≤ length us * b + all_symbol_bits book b us) ⊎ ((w ≤ b + room_of book) × (b + least_symbol book < w))
left_over book b w us under codes = elim (cases_lt (b + least_symbol book) w) [
  | inl lt ↦ inr (some_room book b w us under codes, lt)
  | inr ge ↦
      let symbols = least_symbols book b (least_symbol book) us (symbol_least book) in
      inl (omega (arith, symbols, mul-le-mul_left (length us) ge))
]

-- .. which a tally counts
pub counted : (book b w : ℕ) → 0 < book → book ≤ 3 → w ≤ b + room_of book → b + least_symbol book < w → IsCounted (w - 4) book b
counted zero b w some three room symbol = absurd (omega (arith, some))
counted (suc zero) b w some three room symbol = (omega (arith, room, symbol), omega (arith, room, symbol))
counted (suc (suc zero)) b w some three room symbol = (omega (arith, room, symbol), omega (arith, room, symbol))
counted (suc (suc (suc zero))) b w some three room symbol = (omega (arith, room, symbol), omega (arith, room, symbol))
counted (suc (suc (suc (suc book)))) b w some three room symbol = absurd (omega (arith, three))

-- .. so that the power is one of three
in_three : (book b w : ℕ) → 0 < book → w ≤ b + room_of book → b + least_symbol book < w → (w - 4 ≤ bound_of book b) × (bound_of book b ≤ w - 4 + 2)
in_three zero b w some room symbol = absurd (omega (arith, some))
in_three (suc zero) b w some room symbol = (omega (arith, room, symbol), omega (arith, room, symbol))
in_three (suc (suc zero)) b w some room symbol = (omega (arith, room, symbol), omega (arith, room, symbol))
in_three (suc (suc (suc book))) b w some room symbol = (omega (arith, room, symbol), omega (arith, room, symbol))

-- .. which a sum bounds
pub least_left : (book b w sum twice : ℕ) (us : List ℕ) → 0 < book → sum ≤ raised_sum us → 2 ^ w ≤ 2 * top_of us + 1 → top_of us / 2 ^ b < symbols_of book
    → ((k : ℕ) → w - 4 ≤ k → k ≤ w - 4 + 2 → twice ≤ (2 * k + 1) * length us + sum / 2 ^ k) → min (length us * w) ((twice + 1) / 2) ≤ length us * b + all_symbol_bits book b us
least_left book b w sum twice us some le under codes bound = elim (left_over book b w us under codes) [
  | inl all ↦ omega (arith, all)
  | inr some_left ↦
      let three = in_three book b w some some_left.0 some_left.1 in
      omega (arith, fewest_any book b sum us some le, bound (bound_of book b) three.0 three.1)
]

pub of_three : (P : ℕ → Type 0) (a k : ℕ) → P a → P (a + 1) → P (a + 2) → a ≤ k → k ≤ a + 2 → P k
of_three P a k here next last from to = elim (cases_lt k (a + 1)) [
  | inl lt ↦ let e : a ≡ k = omega (arith, from, lt) in subst P e here
  | inr ge ↦ elim (cases_lt k (a + 2)) [
    | inl lt ↦ let e : a + 1 ≡ k = omega (arith, ge, lt) in subst P e next
    | inr more ↦ let e : a + 2 ≡ k = omega (arith, to, more) in subst P e last
  ]
]
