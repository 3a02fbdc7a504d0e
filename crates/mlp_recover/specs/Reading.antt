-- Reading an interval, one unit after the other, and all of them.
use Rattle.std.specs.Prelude.{◌≡◌, ◌≢◌, ℕ, ◌+◌, ◌*◌, ◌<◌, ◌≤◌, nat_lt, ◌&&◌, if◌then◌else◌, Bool, false, List, [], ◌∷◌, length, drop, All, Option, Some, None, is_some}
use Rattle.mlp_syntax.specs.declared.unit.Outer.{Outer}
use Rattle.mlp_bits.specs.Bits.{bits_of}
use Rattle.mlp_layout.specs.Layout.{Found}
use Rattle.mlp_unit.specs.AccessUnit.{AccessUnit, access_unit, stream_rate}
use Rattle.mlp_walk.specs.Meaning.{HasTaken}
use Rattle.mlp_contents.specs.Units.{Unit_of, start, whole}
use Rattle.mlp_samples.specs.Samples.{frames_by_steps}
use Rattle.mlp_present.specs.Decoding.{Held, channels_by}
use Rattle.mlp_present.specs.Laws.{HoldsUnits}
use Rattle.mlp_recover.specs.declared.span.Span.{Span}
use Rattle.mlp_recover.specs.declared.reach.Reach.{Reach}
use Rattle.mlp_recover.specs.declared.reach.Reading.{Reading}
use Rattle.mlp_recover.specs.declared.reach.Reading.TheVariants.{More, Whole, Broken}
use Rattle.mlp_recover.specs.Interval.{HasNoSync, Interval, NoneAt}
use Rattle.mlp_samples.specs.Behind.{left_behind}
use Rattle.mlp_recover.specs.Recovered.{Piece, Lost, Kept, is_lost}
use Rattle.mlp_recover.specs.Spans.{span_of, HasFewFrames}

-- ---- the first unit

abbrev pub has_major : Option Outer → Bool
has_major None = false
has_major (Some o) = is_some o.major

-- behind so many units the latest has a major sync: another interval begins with it
abbrev pub is_behind : ℕ → Option Outer → Bool
is_behind units latest = nat_lt 0 units && has_major latest

-- no first unit of a stream stands at the front of these bytes
abbrev pub NoFirst : List ℕ → Type 0
NoFirst bytes = (u : AccessUnit) → Found (access_unit None) (bits_of bytes) 0 u → ⊥

-- the rate of the first unit, if one stands there
abbrev pub IsRateOf : List ℕ → ℕ → Type 0
IsRateOf bytes rate = (u : AccessUnit) → Found (access_unit None) (bits_of bytes) 0 u → rate ≡ stream_rate u.major

-- ---- one interval

-- these units were read from byte `first` on and reach so far: alone they begin a stream, none but the first has a major sync,
-- and the decoder and the numbers say what they are
pub record IsRead (k : ℕ) (bytes : List ℕ) (first : ℕ) (us : List Unit_of) (held : Held) (reach : Reach) : Type 0 where
  pub taken : HasTaken (whole k) (start k) (Some k) (drop first bytes) us (drop reach.past bytes)
  pub alone : All HasNoSync (drop 1 us)
  pub room : first + 4 * length us ≤ reach.past
  pub within : reach.past ≤ length bytes
  pub held_is : HoldsUnits k us held
  pub units : reach.units ≡ length us
  pub frames : reach.frames ≡ length (frames_by_steps k (start k) us)
  pub few : reach.frames ≤ 160 * length us
  pub channels : us ≢ [] → reach.channels ≡ channels_by k (left_behind k us)

-- .. and they don't end there
pub record IsGrowing (k : ℕ) (bytes : List ℕ) (first : ℕ) (us : List Unit_of) (held : Held)
    (reach : Reach) : Type 0 where
  pub read : IsRead k bytes first us held reach
  pub more : reach.past < length bytes
  pub going : us ≢ [] → (left_behind k us).ended ≡ false

-- behind one more unit of so many bytes, with so many frames
abbrev pub one_on : Reach → ℕ → ℕ → ℕ → Reach
one_on reach size frames channels =
    record { past = reach.past + size; units = reach.units + 1; frames = reach.frames + frames; channels = channels }

-- they are an interval, of so many units, frames and channels
pub record IsReached (k : ℕ) (bytes : List ℕ) (first : ℕ) (us : List Unit_of) (reach : Reach) : Type 0 where
  pub interval : Interval k bytes first reach.past us
  pub units : reach.units ≡ length us
  pub frames : reach.frames ≡ length (frames_by_steps k (start k) us)
  pub few : reach.frames ≤ 40 * reach.past
  pub channels : reach.channels ≡ channels_by k (left_behind k us)

-- by what came of one more unit
abbrev pub ReadsOn : ℕ → List ℕ → ℕ → Held → Reach → Reading → Type 0
ReadsOn k bytes first held reach More = (us : List Unit_of) × IsGrowing k bytes first us held reach
ReadsOn k bytes first held reach Whole = (us : List Unit_of) × IsReached k bytes first us reach
ReadsOn k bytes first held reach Broken = NoneAt k bytes first

-- it is that of the interval that begins at byte `first`
abbrev pub IsKeptFrom : ℕ → List ℕ → ℕ → Span → Type 0
IsKeptFrom k bytes first span =
    (past : ℕ) × (us : List Unit_of) × Interval k bytes first past us
    × (span ≡ span_of k (Kept first past us)) × HasFewFrames span

-- ---- all of them

-- what is told of the bytes between two kept intervals
abbrev pub lost_between : ℕ → ℕ → List Span
lost_between from to = if nat_lt from to then span_of 0 (Lost from to) ∷ [] else []

abbrev pub EndsKept : List Piece → Type 0
EndsKept [] = Unit {0}
EndsKept (p ∷ []) = is_lost p ≡ false
EndsKept (p ∷ q ∷ ps) = EndsKept (q ∷ ps)
