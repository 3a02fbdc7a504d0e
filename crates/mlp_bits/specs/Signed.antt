-- Two's complement.
use Rattle.std.specs.Prelude.{ℕ, suc, ◌-◌, ◌/◌, ◌^◌, ◌<◌, nat_lt, Option, Some, None, ℤ, pos, negsuc, if◌then◌else◌}

-- what so many bits that spell n stand for
abbrev pub signed : ℕ → ℕ → ℤ
signed width n = if nat_lt n (2 ^ (width - 1)) then pos n else negsuc (2 ^ width - suc n)

-- the number that so many bits spell which stand for a value
abbrev pub unsigned : ℕ → ℤ → Option ℕ
unsigned width (pos n) = if nat_lt n (2 ^ (width - 1)) then Some n else None
unsigned width (negsuc n) = if nat_lt n (2 ^ width / 2) then Some (2 ^ width - suc n) else None

-- so many bits can stand for it
abbrev pub HasBits : ℕ → ℤ → Type 0
HasBits width (pos n) = n < 2 ^ (width - 1)
HasBits width (negsuc n) = n < 2 ^ width / 2
