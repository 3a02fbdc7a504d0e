-- How codes are looked up in windows, which are words that begin with the bits from a place on.
use Rattle.std.specs.Prelude.{◌≡◌, ◌+◌, ◌*◌, ◌-◌, ◌/◌, ◌%◌, ◌^◌, ◌≤◌, ◌<◌, ℕ, Bool, true, List, [], ◌∷◌, All, length, map, take, drop, if◌then◌else◌}
use Rattle.mlp_bits.specs.Bits.{number}
use Rattle.mlp_syntax.specs.declared.segment.Code.{Code}
use Rattle.mlp_layout.specs.Layout.{Layout}
use Rattle.mlp_layout.specs.Combined.{series}
use Rattle.mlp_residual.specs.Frames.{code_at}
use Rattle.mlp_books.specs.Books.{longest_in}
use Rattle.mlp_residual.specs.declared.ahead.Lookup.{Lookup}
use Rattle.mlp_residual.specs.declared.ahead.Lookups.{Lookups}
use Rattle.mlp_residual.specs.declared.frames.ChannelCode.{ChannelCode}

-- the channel: each book has 512 numbers
abbrev pub channel_of : Lookup → ChannelCode
channel_of l = record { book = l.table_start / 512; low = l.low }

-- it is of a book, with at most 31 low bits
pub record IsLookup (l : Lookup) : Type 0 where
  pub table_start : l.table_start ≡ 512 * (l.table_start / 512)
  pub book : l.table_start / 512 ≤ 3
  pub low : l.low ≤ 31
  pub mask : l.mask ≡ 2 ^ l.low - 1

-- how many bits a code takes at most
abbrev pub most_of : Lookup → ℕ
most_of l = longest_in (l.table_start / 512) + l.low

-- .. and all codes of a frame
abbrev pub most_in : List Lookup → ℕ
most_in [] = 0
most_in (l ∷ ls) = most_of l + most_in ls

-- a code of each channel
abbrev pub codes_looked_up : List Lookup → Layout (List Code)
codes_looked_up ls = series (code_at (map channel_of ls)) (length ls) []

-- the first bits of a word, so many, are those from a place on: each field of them is what stands there
pub record IsWindow (window count : ℕ) (all : List Bool) (place : ℕ) : Type 0 where
  pub word : window < 2 ^ 64
  pub most : count ≤ 64
  pub field : (from width : ℕ) → from + width ≤ count
      → window / 2 ^ (64 - from - width) % 2 ^ width ≡ number (take width (drop (place + from) all))

-- how many bits of the window there are for a code: those left, or those of a new window
abbrev pub bits_for : Lookup → ℕ → ℕ
bits_for l left = if l.reload then 57 else left

-- there are enough bits for each code, with so many left for the first
unfoldable pub Planned : ℕ → List Lookup → Type 0
Planned left [] = Unit {0}
Planned left (l ∷ ls) = (most_of l ≤ bits_for l left) × Planned (bits_for l left - most_of l) ls

-- so many bits are enough for the codes of a frame, for the window at its front, and for each window that is taken anew
pub record HasRoom (room : ℕ) (lookups : List Lookup) : Type 0 where
  pub codes : most_in lookups ≤ room
  pub first : 64 ≤ room
  pub others : All (λ l. l.reload ≡ true → most_in lookups + 64 ≤ room) lookups

-- they are the lookups of these channels
pub record AreLookups (channels : List ChannelCode) (l : Lookups) : Type 0 where
  pub channels_are : map channel_of l.channels.items ≡ channels
  pub looked_up : All IsLookup l.channels.items
  pub planned : Planned 57 l.channels.items
  pub most : l.most ≡ most_in l.channels.items
  pub enough : HasRoom l.room l.channels.items
  pub small : l.room ≤ 384
