-- How fast a stream arrives, and how much of it a player holds.
use Rattle.std.specs.Prelude.{◌≡◌, ◌<◌, ◌≤◌, ℕ, ◌-◌, ◌*◌, ◌/◌, List, [], ◌∷◌, nat_le, ◌==◌, if◌then◌else◌, IsTrue}
use Rattle.std.specs.List.{list_any}
use Rattle.mlp_syntax.specs.declared.major.Kind.{Kind}
use Rattle.mlp_syntax.specs.declared.major.Kind.TheVariants.{Fbb, Fba}
use Rattle.mlp_fifo.specs.declared.pace.Pace.{Pace}

-- the rates of streams, in samples a second
abbrev pub rates : List ℕ
rates = 44100 ∷ 48000 ∷ 88200 ∷ 96000 ∷ 176400 ∷ 192000 ∷ []

abbrev pub IsRate : ℕ → Type 0
IsRate rate = IsTrue (list_any (λ r. r == rate) rates)

-- the sample periods of an access unit
unfoldable pub unit_of : ℕ → ℕ
unit_of rate = if nat_le rate 48000 then 40 else (if nat_le rate 96000 then 80 else 160)

-- the most bits in a second
abbrev pub bits_a_second : Kind → ℕ
bits_a_second Fbb = 9600000
bits_a_second Fba = 18000000

-- the bits of a sample period in sixteenths, and half a bit less
unfoldable pub peak_of : Kind → ℕ → ℕ
peak_of kind rate = (16 * bits_a_second kind - 8) / rate

-- the bytes that the player's buffer holds
unfoldable pub size_of : Kind → ℕ
size_of Fbb = 90000
size_of Fba = 120000

unfoldable pub pace_of : Kind → ℕ → Pace
pace_of kind rate = record { unit = unit_of rate; latency = 90; peak = peak_of kind rate; size = size_of kind }

-- bounds of the numbers, for all kinds and rates
pub record IsUsual (p : Pace) : Type 0 where
  pub unit_most : p.unit ≤ 160
  pub latency_is : p.latency ≡ 90
  pub peak_least : 0 < p.peak
  pub size_least : 8190 ≤ p.size
  pub size_most : p.size ≤ 120000

-- the most bytes of which 90 units fit in the buffer, at 44100 and 48000 samples a second
abbrev pub single_most : Kind → ℕ
single_most Fbb = 999
single_most Fba = 1333
