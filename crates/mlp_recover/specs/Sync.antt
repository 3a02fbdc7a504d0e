-- Where a restart interval may begin.
use Rattle.std.specs.Prelude.{◌≡◌, ℕ, ◌+◌, ◌*◌, ◌<◌, ◌≤◌, nat_le, ◌&&◌, Bool, false, List, length, drop}
use Rattle.mlp_bits.specs.Bits.{bits_of}
use Rattle.mlp_layout.specs.Layout.{next_is}
use Rattle.mlp_major.specs.MajorSync.{sync}

-- a unit that begins at this byte would have a major sync: four bytes on there are a sync's first bits
abbrev pub has_sync_at : List ℕ → ℕ → Bool
has_sync_at bytes place = nat_le (place + 8) (length bytes) && next_is 31 sync (drop (8 * place + 32) (bits_of bytes))

-- at none of these bytes it would
abbrev pub NoSyncIn : List ℕ → ℕ → ℕ → Type 0
NoSyncIn bytes from to = (place : ℕ) → from ≤ place → place < to → has_sync_at bytes place ≡ false
