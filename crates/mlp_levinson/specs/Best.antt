-- What a computed filter is, as facts: where there is one, and its shift and width.
use Rattle.std.specs.Prelude.{◌≡◌, ℕ, ◌-◌, ◌<◌, ◌≤◌, ◌^◌, List, length, map, All, ℤ, pos, neg_ℤ, ◌≤ℤ◌, ◌<ℤ◌, None}
use Rattle.mlp_predict.specs.Filters.{IsFilter}
use Rattle.mlp_syntax.specs.declared.params.Filter.{Filter}
use Rattle.mlp_levinson.specs.Computed.{level, rounded}

-- the error of each order below m is positive
abbrev pub ArePositive : List ℤ → ℕ → Type 0
ArePositive rs m = (i : ℕ) → i < m → pos 0 <ℤ (level rs i).error

-- w signed bits
pub record HasBits (w : ℕ) (c : ℤ) : Type 0 where
  pub low : neg_ℤ (pos (2 ^ (w - 1))) ≤ℤ c
  pub high : c <ℤ pos (2 ^ (w - 1))

-- s is the greatest shift up to 15 at which all coefficients, rounded, have 16 signed bits
pub record IsGreatestShift (ps : List ℤ) (s : ℕ) : Type 0 where
  pub most : s ≤ 15
  pub fits : All (HasBits 16) (map (rounded s) ps)
  pub greatest : (t : ℕ) → s < t → t ≤ 15 → ¬ All (HasBits 16) (map (rounded t) ps)

-- w is the least width, of at least one bit, that all numbers have
pub record IsLeastWidth (cs : List ℤ) (w : ℕ) : Type 0 where
  pub some : 1 ≤ w
  pub holds : All (HasBits w) cs
  pub least : (v : ℕ) → 1 ≤ v → All (HasBits v) cs → w ≤ v

-- a filter that stands for the coefficients of an order
pub record StandsFor (ps : List ℤ) (filter : Filter 8) : Type 0 where
  pub shift : IsGreatestShift ps filter.shift
  pub coefficients : filter.coeffs.items ≡ map (rounded filter.shift) ps
  pub width : IsLeastWidth filter.coeffs.items filter.coeff_bits
  pub unshifted : filter.coeff_shift ≡ 0
  pub stateless : filter.state ≡ None
  pub usable : IsFilter filter

-- the filter of an order over lags
pub record IsComputed (rs : List ℤ) (order : ℕ) (filter : Filter 8) : Type 0 where
  pub count : length filter.coeffs.items ≡ order
  pub stands_for : StandsFor (level rs order).coefficients.items filter
