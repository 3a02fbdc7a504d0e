-- Numbers among the words: decimal digits without a sign or a leading zero, up to 2^40.
use Rattle.std.specs.Prelude.{ℕ, ◌+◌, ◌-◌, ◌*◌, ◌==◌, nat_le, not, ◌&&◌, Bool, true, false, List, [], ◌∷◌, Option, Some, None, if◌then◌else◌}
use Rattle.std.specs.Option.{option_and_then}
use Rattle.mlp_io.specs.Limit.{limit}

abbrev pub is_digit : ℕ → Bool
is_digit b = nat_le 48 b && nat_le b 57

-- a number with one more digit behind it
abbrev pub with_digit : ℕ → ℕ → Option ℕ
with_digit n b = if is_digit b && nat_le (10 * n + (b - 48)) limit then Some (10 * n + (b - 48)) else None

-- .. with several
abbrev pub with_digits : ℕ → List ℕ → Option ℕ
with_digits n [] = Some n
with_digits n (b ∷ bs) = option_and_then (λ m. with_digits m bs) (with_digit n b)

-- there are digits, and the first of several isn't 0
abbrev pub begins_well : List ℕ → Bool
begins_well [] = false
begins_well (b ∷ []) = true
begins_well (b ∷ c ∷ bs) = not (b == 48)

abbrev pub number_of : List ℕ → Option ℕ
number_of word = if begins_well word then with_digits 0 word else None

-- a number, where it lies in a range
abbrev pub within : ℕ → ℕ → ℕ → Option ℕ
within least most n = if nat_le least n && nat_le n most then Some n else None

abbrev pub number_within : ℕ → ℕ → List ℕ → Option ℕ
number_within least most word = option_and_then (within least most) (number_of word)
