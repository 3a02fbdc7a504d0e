-- Whole numbers as the words of a codec.
use Rattle.std.specs.Prelude.{◌≡◌, ℕ, ◌-◌, ◌/◌, ◌^◌, ℤ, pos, negsuc, neg_ℤ, ◌+ℤ◌, ◌-ℤ◌, ◌*ℤ◌, ◌≤ℤ◌, ◌<ℤ◌}
use Rattle.std.specs.Int.{int_wrap, int_shr, w32}

-- v / n, rounded down, of a positive n
abbrev pub floor_over : ℕ → ℤ → ℤ
floor_over n (pos v) = pos (v / n)
floor_over n (negsuc v) = negsuc (v / n)

-- v / 2^n, rounded down
abbrev pub floor_by : ℕ → ℤ → ℤ
floor_by n v = int_shr v n

-- v with its low q bits cleared: floor(v / 2^q) * 2^q
abbrev pub clear : ℕ → ℤ → ℤ
clear q v = floor_by q v *ℤ pos (2 ^ q)

-- the number from -2^31 to 2^31 - 1 that is congruent to v modulo 2^32
abbrev pub wrap : ℤ → ℤ
wrap v = int_wrap w32 v

-- the number from -2^23 to 2^23 - 1 that is congruent to v modulo 2^24
abbrev pub low24 : ℤ → ℤ
low24 v = v -ℤ clear 24 (v +ℤ pos (2 ^ 23))

-- ---- what these are, by which each is the only one

-- q is the greatest number of which n times isn't above v
pub record IsFloor (n : ℕ) (v q : ℤ) : Type 0 where
  pub low : (q *ℤ pos n) ≤ℤ v
  pub high : v <ℤ ((q +ℤ pos 1) *ℤ pos n)

-- r has w signed bits, and is congruent to v modulo 2^w
pub record IsResidue (w : ℕ) (v r : ℤ) : Type 0 where
  pub low : neg_ℤ (pos (2 ^ (w - 1))) ≤ℤ r
  pub high : r <ℤ pos (2 ^ (w - 1))
  pub congruent : (k : ℤ) × (v ≡ r +ℤ k *ℤ pos (2 ^ w))
