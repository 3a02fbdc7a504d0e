-- The timing of a stream: what the timings in its access units must be.
use Rattle.std.specs.Prelude.{◌≡◌, ◌↔◌, ℕ, ◌+◌, ◌*◌, ◌%◌, ◌<◌, ◌≤◌, Bool, Option, None, IfSome, IsTrue}
use Rattle.std.specs.Prelude.{List, [], ◌∷◌, ◌++◌, length, map, slice_index_or}
use Rattle.circular_buffer.specs.Buffer.{keep_last}
use Rattle.mlp_syntax.specs.declared.major.Kind.{Kind}
use Rattle.mlp_fifo.specs.declared.pace.Pace.{Pace}
use Rattle.mlp_fifo.specs.declared.arrivals.Arrivals.{Arrivals}
use Rattle.mlp_fifo.specs.Pace.{pace_of}
use Rattle.mlp_fifo.specs.Schedule.{out_of, IsSchedule, finish_of}

-- what of an access unit the timing of a stream speaks of
pub record TimedUnit : Type 0 where
  -- its input timing
  pub input : ℕ
  -- the output timing of its first substream's restart header, if it has one
  pub output : Option ℕ
  pub bytes : ℕ

-- v has the timings of u and no more bytes
pub record IsShorter (v u : TimedUnit) : Type 0 where
  pub same_input : v.input ≡ u.input
  pub same_output : v.output ≡ u.output
  pub shorter : v.bytes ≤ u.bytes

abbrev pub unit_at : List TimedUnit → ℕ → TimedUnit
unit_at units i = slice_index_or units i (record { input = 0; output = None; bytes = 0 })

abbrev pub bytes_at : (ℕ → TimedUnit) → ℕ → ℕ
bytes_at u i = (u i).bytes

-- t i is the one time whose low 16 bits are the input timing, from unit i's turn on and less than 2^16 later
pub record HasTimes (p : Pace) (u : ℕ → TimedUnit) (t : ℕ → ℕ) (n : ℕ) : Type 0 where
  pub least : (i : ℕ) → i < n → i * p.unit ≤ t i
  pub below : (i : ℕ) → i < n → t i < i * p.unit + 65536
  pub low : (i : ℕ) → i < n → t i % 65536 ≡ (u i).input

-- these times are a schedule, and the output timings are the low 16 bits of when the units are output
pub record IsTimed (p : Pace) (u : ℕ → TimedUnit) (n : ℕ) : Type 0 where
  pub times : ℕ → ℕ
  pub has_times : HasTimes p u times n
  pub is_schedule : IsSchedule p (bytes_at u) times n
  pub outputs : (i : ℕ) → i < n → IfSome (u i).output (λ o. o ≡ out_of p i % 65536)

abbrev pub AreTimed : Kind → ℕ → List TimedUnit → Type 0
AreTimed kind rate units = IsTimed (pace_of kind rate) (unit_at units) (length units)

-- what the units before leave to a later one
pub record LeftChecker : Type 0 where
  pub kind : Kind
  pub rate : ℕ
  -- the number of units
  pub count : ℕ
  -- when the last one has arrived
  pub finish : ℕ
  -- the latest 91 lengths, or all of them
  pub latest : List ℕ
  -- whether all had the timing of a stream
  pub timed : Bool

abbrev pub checked_by : Arrivals → Bool → LeftChecker
checked_by a timed = record {
  kind = a.kind;
  rate = a.rate;
  count = a.count;
  finish = a.finish;
  latest = a.latest.items;
  timed = timed;
}

-- what these units leave
pub record LeavesTimed (kind : Kind) (rate : ℕ) (units : List TimedUnit) (left : LeftChecker) : Type 0 where
  pub kind_is : left.kind ≡ kind
  pub rate_is : left.rate ≡ rate
  pub count_is : left.count ≡ length units
  pub latest_is : left.latest ≡ keep_last 91 (map (λ u. u.bytes) units)
  pub times : ℕ → ℕ
  pub has_times : HasTimes (pace_of kind rate) (unit_at units) times (length units)
  pub finish_is : left.finish ≡ finish_of (pace_of kind rate) (bytes_at (unit_at units)) times (length units)
  pub timed_is : IsTrue left.timed ↔ AreTimed kind rate units

-- what holds of each kind, rate and list of units that leave this
abbrev EachTimed : LeftChecker → (Kind → ℕ → List TimedUnit → Type 0) → Type 0
EachTimed left P =
    (kind : Kind) (rate : ℕ) (units : List TimedUnit) → LeavesTimed kind rate units left → P kind rate units

-- whether all of them and one more have the timing of a stream
abbrev pub TellsTimed : LeftChecker → TimedUnit → Bool → Type 0
TellsTimed left u timed = EachTimed left (λ kind rate units. IsTrue timed ↔ AreTimed kind rate (units ++ u ∷ []))

-- what they and one more leave
abbrev pub LeavesWith : LeftChecker → TimedUnit → LeftChecker → Type 0
LeavesWith left u then_left = EachTimed left (λ kind rate units. LeavesTimed kind rate (units ++ u ∷ []) then_left)

-- ---- what is owed

-- at most one list of times has the timings of given units
abbrev pub HasOneTiming : Type 0
HasOneTiming =
    (p : Pace) (u : ℕ → TimedUnit) (t s : ℕ → ℕ) (n : ℕ)
    → HasTimes p u t n → HasTimes p u s n → (i : ℕ) → i < n → t i ≡ s i

-- timings stay those of a stream where units get shorter
abbrev pub ShorterIsTimed : Type 0
ShorterIsTimed =
    (p : Pace) (u v : ℕ → TimedUnit) (n : ℕ)
    → 0 < p.peak → ((i : ℕ) → i < n → IsShorter (v i) (u i)) → IsTimed p u n → IsTimed p v n
