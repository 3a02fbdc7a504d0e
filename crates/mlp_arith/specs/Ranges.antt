-- Numbers of so many signed bits.
use Rattle.std.specs.Prelude.{◌^◌, ℤ, pos, neg_ℤ, ◌≤ℤ◌, ◌<ℤ◌}

-- 24 signed bits
pub record Is24 (v : ℤ) : Type 0 where
  pub low : neg_ℤ (pos (2 ^ 23)) ≤ℤ v
  pub high : v <ℤ pos (2 ^ 23)

-- 26 signed bits
pub record Is26 (v : ℤ) : Type 0 where
  pub low : neg_ℤ (pos (2 ^ 25)) ≤ℤ v
  pub high : v <ℤ pos (2 ^ 25)
