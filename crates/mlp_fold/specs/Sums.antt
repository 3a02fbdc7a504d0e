-- Sums over frames.
use Rattle.std.specs.Prelude.{ℕ, List, [], ◌∷◌, bit_xor, ℤ}
use Rattle.std.specs.Int.{w32, cast_unsigned}

-- the sum without carries of a word and of values as words
abbrev pub sum_of : ℕ → List ℤ → ℕ
sum_of sum [] = sum
sum_of sum (x ∷ xs) = sum_of (bit_xor sum (cast_unsigned w32 x)) xs
