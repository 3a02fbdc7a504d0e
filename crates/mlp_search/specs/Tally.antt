-- The bits of symbols in several books and with several numbers of low bits.
use Rattle.std.specs.Prelude.{◌≡◌, ℕ, zero, suc, ◌+◌, ◌-◌, ◌*◌, ◌/◌, ◌^◌, ◌<◌, ◌≤◌, nat_lt, List, [], ◌∷◌, ℤ, IfSome, if◌then◌else◌}
use Rattle.mlp_search.specs.declared.sums.Sums.{Sums}
use Rattle.mlp_search.specs.declared.tally.Tally.{Tally}
use Rattle.mlp_search.specs.declared.tally.Tallies.{Tallies}
use Rattle.mlp_search.specs.declared.sides.Sides.{Sides}
use Rattle.mlp_search.specs.Folded.{all_folded, all_symbol_bits}

-- the sum of numbers over 2^b
abbrev pub quotient_sum : ℕ → List ℕ → ℕ
quotient_sum b [] = 0
quotient_sum b (u ∷ us) = u / 2 ^ b + quotient_sum b us

-- how many numbers are below 2^b
abbrev pub count_below : ℕ → List ℕ → ℕ
count_below b [] = 0
count_below b (u ∷ us) = (if nat_lt (u / 2 ^ b) 1 then 1 else 0) + count_below b us

-- the sums of numbers over 2^low, of their halves and quarters, and how many of them are below 1, 2, 4 and 8
pub record IsSums (low : ℕ) (us : List ℕ) (s : Sums) : Type 0 where
  pub whole : s.whole ≡ quotient_sum low us
  pub halves : s.halves ≡ quotient_sum (low + 1) us
  pub quarters : s.quarters ≡ quotient_sum (low + 2) us
  pub below_1 : s.below_1 ≡ count_below low us
  pub below_2 : s.below_2 ≡ count_below (low + 1) us
  pub below_4 : s.below_4 ≡ count_below (low + 2) us
  pub below_8 : s.below_8 ≡ count_below (low + 3) us

-- they are small enough to be added and taken away
pub record AreFew (count : ℕ) (s : Sums) : Type 0 where
  pub whole : s.whole ≤ 15 * count
  pub halves : s.halves ≤ s.whole
  pub quarters : s.quarters ≤ s.halves
  pub below_1 : s.below_1 ≤ count
  pub below_2 : s.below_2 ≤ count
  pub below_4 : s.below_4 ≤ count
  pub below_8 : s.below_8 ≤ count

-- each sum is that of its book over the values that are moved by an offset
pub record IsTally (offset : ℤ) (vs : List ℤ) (t : Tally) : Type 0 where
  pub first_before : 0 < t.low → t.first_before ≡ all_symbol_bits 1 (t.low - 1) (all_folded offset vs)
  pub first_0 : t.first_0 ≡ all_symbol_bits 1 t.low (all_folded offset vs)
  pub first_1 : t.first_1 ≡ all_symbol_bits 1 (t.low + 1) (all_folded offset vs)
  pub second_0 : t.second_0 ≡ all_symbol_bits 2 t.low (all_folded offset vs)
  pub second_1 : t.second_1 ≡ all_symbol_bits 2 (t.low + 1) (all_folded offset vs)
  pub third_0 : t.third_0 ≡ all_symbol_bits 3 t.low (all_folded offset vs)
  pub third_1 : t.third_1 ≡ all_symbol_bits 3 (t.low + 1) (all_folded offset vs)
  pub third_2 : t.third_2 ≡ all_symbol_bits 3 (t.low + 2) (all_folded offset vs)

-- these are a book and low bits that a tally has
abbrev pub IsCounted : ℕ → ℕ → ℕ → Type 0
IsCounted low zero b = ⊥
IsCounted low (suc zero) b = (low ≤ b + 1) × (b ≤ low + 1)
IsCounted low (suc (suc zero)) b = (low ≤ b) × (b ≤ low + 1)
IsCounted low (suc (suc (suc zero))) b = (low ≤ b) × (b ≤ low + 2)
IsCounted low (suc (suc (suc (suc book)))) b = ⊥

-- .. for both offsets, where they were counted
pub record AreTallies (vs : List ℤ) (s : Sides) (t : Tallies) : Type 0 where
  pub zero : IfSome t.zero (λ u. IsTally s.zero.offset vs u)
  pub middle : IfSome t.middle (λ u. IsTally s.middle.offset vs u)
