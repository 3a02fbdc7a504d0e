-- Prediction filters that are computed from a block's own samples,
-- by the recursion of Levinson and Durbin in whole numbers.
use Rattle.std.specs.Prelude.{ℕ, zero, suc, ◌-◌, ◌^◌, nat_lt, List, [], ◌∷◌, ◌++◌, length, map, drop, reverse, slice_index_or, ℤ, pos, negsuc, neg_ℤ, ◌+ℤ◌, ◌-ℤ◌, ◌*ℤ◌, ◌≤ℤ◌, unsigned_abs, Bool, true, false, ◌&&◌, Option, Some, None, if◌then◌else◌}
use Rattle.std.specs.List.{list_all}
use Rattle.std.specs.Int.{int_min, int_max}
use Rattle.mlp_arith.specs.Words.{floor_by, floor_over}
use Rattle.mlp_predict.specs.Prediction.{dot}
use Rattle.mlp_syntax.specs.declared.params.Filter.{Filter}
use Rattle.mlp_levinson.specs.declared.recursion.Level.{Level}

-- ---- lags

-- the samples over 2^step
abbrev pub over : ℕ → List ℤ → List ℤ
over step samples = map (floor_by step) samples

-- the sum of the products of values that stand j apart
abbrev pub lag : List ℤ → ℕ → ℤ
lag ys j = dot (drop j ys) ys

-- lag 0 to 8
abbrev pub lags : List ℤ → List ℤ
lags ys = lag ys 0 ∷ lag ys 1 ∷ lag ys 2 ∷ lag ys 3 ∷ lag ys 4
    ∷ lag ys 5 ∷ lag ys 6 ∷ lag ys 7 ∷ lag ys 8 ∷ []

abbrev pub at : List ℤ → ℕ → ℤ
at rs j = slice_index_or rs j (pos 0)

-- a lag of at most 160 values of 26 signed bits
pub record IsLag (r : ℤ) : Type 0 where
  pub low : neg_ℤ (pos (2 ^ 58)) ≤ℤ r
  pub high : r ≤ℤ pos (2 ^ 58)

-- ---- the recursion over lags: coefficients and reflections are over 2^20

-- lag m down to lag 1
abbrev pub lags_down : List ℤ → ℕ → List ℤ
lags_down rs zero = []
lags_down rs (suc m) = at rs (suc m) ∷ lags_down rs m

-- what coefficients leave of the next lag
abbrev pub remainder : List ℤ → List ℤ → ℤ
remainder rs ps = at rs (suc (length ps)) *ℤ pos (2 ^ 20) -ℤ dot ps (lags_down rs (length ps))

-- brought into -(2^20 - 1) to 2^20 - 1
abbrev pub limited : ℤ → ℤ
limited v = int_max (neg_ℤ (pos (2 ^ 20 - 1))) (int_min (pos (2 ^ 20 - 1)) v)

-- the reflection coefficient: the remainder over a positive error
abbrev pub reflection : List ℤ → Level → ℤ
reflection rs l = limited (floor_over (unsigned_abs l.error) (remainder rs l.coefficients.items))

-- each value less k times the one beside it, over 2^20
abbrev pub lessened : ℤ → List ℤ → List ℤ → List ℤ
lessened k [] bs = []
lessened k (a ∷ ps) [] = []
lessened k (a ∷ ps) (b ∷ bs) = (a -ℤ floor_by 20 (k *ℤ b)) ∷ lessened k ps bs

-- the coefficients of one order more: k is the last one
abbrev pub extended : ℤ → List ℤ → List ℤ
extended k ps = lessened k ps (reverse ps) ++ k ∷ []

-- what k leaves of an error
abbrev pub error_after : ℤ → ℤ → ℤ
error_after error k = floor_by 40 (error *ℤ (pos (2 ^ 40) -ℤ k *ℤ k))

-- coefficients and error of order m
abbrev pub next : List ℤ → Level → Level
next rs l = record {
  coefficients = record { items = extended (reflection rs l) l.coefficients.items };
  error = error_after l.error (reflection rs l);
}

abbrev pub level : List ℤ → ℕ → Level
level rs zero = record { coefficients = record { items = [] }; error = at rs 0 }
level rs (suc m) = next rs (level rs m)

abbrev pub is_positive : ℤ → Bool
is_positive (pos zero) = false
is_positive (pos (suc n)) = true
is_positive (negsuc n) = false

-- is the error of each order below m positive?
abbrev pub goes_on : List ℤ → ℕ → Bool
goes_on rs zero = true
goes_on rs (suc m) = goes_on rs m && is_positive (level rs m).error

-- what a coefficient can be up to order 8
pub record IsSmall (a : ℤ) : Type 0 where
  pub low : neg_ℤ (pos (2 ^ 28)) ≤ℤ a
  pub high : a ≤ℤ pos (2 ^ 28)

-- a reflection
pub record IsReflection (k : ℤ) : Type 0 where
  pub low : neg_ℤ (pos (2 ^ 20 - 1)) ≤ℤ k
  pub high : k ≤ℤ pos (2 ^ 20 - 1)

-- ---- the filter

-- a coefficient over 2^s, rounded to the nearest
abbrev pub rounded : ℕ → ℤ → ℤ
rounded s a = floor_by 20 (a *ℤ pos (2 ^ s) +ℤ pos (2 ^ 19))

-- n of the numbers n and -n - 1
abbrev pub magnitude : ℤ → ℕ
magnitude (pos n) = n
magnitude (negsuc n) = n

-- has a number at most w signed bits, or one where w is 0?
abbrev pub has_bits : ℕ → ℤ → Bool
has_bits w c = nat_lt (magnitude c) (2 ^ (w - 1))

-- have all coefficients over 2^s 16 signed bits?
abbrev pub serves : ℕ → List ℤ → Bool
serves s ps = list_all (λ a. has_bits 16 (rounded s a)) ps

-- the greatest shift up to s that serves, or 0
abbrev pub greatest_shift : ℕ → List ℤ → ℕ
greatest_shift zero ps = 0
greatest_shift (suc s) ps = if serves (suc s) ps then suc s else greatest_shift s ps

-- the fewest bits, from w down to 1, that hold all numbers
abbrev pub fewest_bits : ℕ → List ℤ → ℕ
fewest_bits zero cs = 1
fewest_bits (suc w) cs = if list_all (has_bits w) cs then fewest_bits w cs else suc w

-- a filter of these coefficients with so many fraction bits
abbrev filter_at : ℕ → List ℤ → Filter 8
filter_at s cs = record {
  shift = s;
  coeff_bits = fewest_bits 16 cs;
  coeff_shift = 0;
  coeffs = record { items = cs };
  state = None;
}

abbrev pub filter_of : List ℤ → Filter 8
filter_of ps = filter_at (greatest_shift 15 ps) (map (rounded (greatest_shift 15 ps)) ps)

-- the filter of an order over lags, where there is one
abbrev pub filter_over : List ℤ → ℕ → Option (Filter 8)
filter_over rs order = if goes_on rs order then Some (filter_of (level rs order).coefficients.items) else None

-- .. and of a block of samples
abbrev pub computed : ℕ → List ℤ → ℕ → Option (Filter 8)
computed step samples order = filter_over (lags (over step samples)) order
