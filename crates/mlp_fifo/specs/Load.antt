-- Sums of lengths.
use Rattle.std.specs.Prelude.{ℕ, zero, suc, ◌+◌}

-- b k + .., of m units
abbrev pub sum_from : (ℕ → ℕ) → ℕ → ℕ → ℕ
sum_from b k zero = 0
sum_from b k (suc m) = sum_from b k m + b (k + m)
