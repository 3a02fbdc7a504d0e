-- Values folded onto numbers without a sign, and what their codes take.
use Rattle.std.specs.Prelude.{ℕ, zero, suc, ◌+◌, ◌-◌, ◌*◌, ◌/◌, ◌^◌, max, nat_lt, List, [], ◌∷◌, map, ℤ, pos, negsuc, ◌-ℤ◌, ◌*ℤ◌, unsigned_abs, if◌then◌else◌}

-- so many steps of 2^step
abbrev pub stepped : ℕ → ℤ → ℤ
stepped step v = v *ℤ pos (2 ^ step)

-- 0, -1, 1, -2 and 2 are folded onto 0, 1, 2, 3 and 4
abbrev pub folded : ℤ → ℕ
folded (pos n) = 2 * n
folded (negsuc n) = 2 * n + 1

-- 1 for a negative value
abbrev pub negative : ℤ → ℕ
negative (pos n) = 0
negative (negsuc n) = 1

-- how many values are negative
abbrev pub negatives : List ℤ → ℕ
negatives [] = 0
negatives (v ∷ vs) = negative v + negatives vs

-- the sum of the sizes of values
abbrev pub sizes : List ℤ → ℕ
sizes [] = 0
sizes (v ∷ vs) = unsigned_abs v + sizes vs

-- how many bits the symbol of a value takes, whose folded value over 2^b, of b low bits, this is
abbrev pub symbol_bits : ℕ → ℕ → ℕ
symbol_bits zero p = 0
symbol_bits (suc zero) p = 1 + p / 2 + (if nat_lt p 2 then 1 else 0) + (if nat_lt p 4 then 1 else 0)
symbol_bits (suc (suc zero)) p = 2 + p / 2
symbol_bits (suc (suc (suc book))) p = 2 + (p - p / 2) - (if nat_lt p 1 then 1 else 0)

-- values that are moved by an offset and folded
abbrev pub all_folded : ℤ → List ℤ → List ℕ
all_folded offset vs = map (λ v. folded (v -ℤ offset)) vs

-- the greatest of numbers
abbrev pub top_of : List ℕ → ℕ
top_of [] = 0
top_of (u ∷ us) = max u (top_of us)

-- how many bits the symbols of folded values take in all, beside b low bits each
abbrev pub all_symbol_bits : ℕ → ℕ → List ℕ → ℕ
all_symbol_bits book b [] = 0
all_symbol_bits book b (u ∷ us) = symbol_bits book (u / 2 ^ b) + all_symbol_bits book b us

-- the sum of numbers, each raised by 1
abbrev pub raised_sum : List ℕ → ℕ
raised_sum [] = 0
raised_sum (u ∷ us) = u + 1 + raised_sum us
