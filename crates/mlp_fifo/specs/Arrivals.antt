-- Which of the latest units may still be held.
use Rattle.std.specs.Prelude.{◌≡◌, ℕ, suc, ◌+◌, ◌-◌, ◌*◌, ◌<◌, ◌≤◌, max, List, length, slice_index}
use Rattle.mlp_fifo.specs.declared.arrivals.Held.{Held}
use Rattle.mlp_fifo.specs.declared.pace.Pace.{Pace}
use Rattle.mlp_fifo.specs.Schedule.{out_of}
use Rattle.mlp_fifo.specs.Load.{sum_from}

-- so many of the latest units, and their bytes
pub record IsHeld (latest : List ℕ) (held : Held) : Type 0 where
  pub units_most : held.units ≤ length latest
  pub bytes_are : held.bytes ≡ sum_from (slice_index latest) (length latest - held.units) held.units

-- of n units all but the latest have been output at a time
abbrev pub IsGone : Pace → ℕ → ℕ → ℕ → Type 0
IsGone p n time units = units < n → out_of p (n - suc units) ≤ time

-- the least time for unit n, where the last one has arrived at a finish, the unit before those left has been output
abbrev pub time_with_shed : Pace → ℕ → ℕ → Held → ℕ
time_with_shed p n finish left = max (max (n * p.unit) finish) (out_of p (n - suc left.units))

-- of the units held so few that they and some bytes more are within the size, and no fewer than that
pub record IsShed (latest : List ℕ) (held : Held) (bytes size : ℕ) (left : Held) : Type 0 where
  pub fewer : left.units ≤ held.units
  pub bytes_are : left.bytes ≡ sum_from (slice_index latest) (length latest - left.units) left.units
  pub fits : left.bytes + bytes ≤ size
  pub most : left.units < held.units → size < left.bytes + bytes + slice_index latest (length latest - suc left.units)
