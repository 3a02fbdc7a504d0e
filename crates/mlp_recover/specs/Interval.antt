-- A restart interval in damaged bytes: units that are a stream by themselves and end where a stream may.
use Rattle.std.specs.Prelude.{◌≡◌, ℕ, ◌<◌, ◌≤◌, true, List, length, drop, All, slice_range, ◌⊎◌, is_some, is_none}
use Rattle.mlp_bits.specs.Bits.{bits_of}
use Rattle.mlp_layout.specs.Streams.{IsNext, Stream, left_after}
use Rattle.mlp_contents.specs.Units.{Left, Unit_of, start, whole}
use Rattle.mlp_samples.specs.Behind.{left_behind}

-- behind these units the bytes go on with one more unit of their stream, which has a major sync
pub record GoesOn (k : ℕ) (us : List Unit_of) (rest : List ℕ) : Type 0 where
  pub unit : Unit_of
  pub next : IsNext (whole k) (left_behind k us) (bits_of rest) unit
  pub major : is_some unit.outer.major ≡ true

abbrev pub HasNoSync : Unit_of → Type 0
HasNoSync u = is_none u.outer.major ≡ true

-- these units, from byte `first` to byte `past`: alone they are a stream for presentation k, of them the first alone has a
-- major sync, and they end with the bytes, with a terminator, or before a unit with a major sync that goes on
pub record Interval (k : ℕ) (bytes : List ℕ) (first past : ℕ) (us : List Unit_of) : Type 0 where
  pub some : first < past
  pub within : past ≤ length bytes
  pub stream : Stream (whole k) (start k) k (bits_of (slice_range bytes first past)) us
  pub alone : All HasNoSync (drop 1 us)
  pub ends : (past ≡ length bytes) ⊎ (((left_behind k us).ended ≡ true) ⊎ GoesOn k us (drop past bytes))

-- no interval begins at this byte
abbrev pub NoneAt : ℕ → List ℕ → ℕ → Type 0
NoneAt k bytes first = (past : ℕ) (us : List Unit_of) → Interval k bytes first past us → ⊥
