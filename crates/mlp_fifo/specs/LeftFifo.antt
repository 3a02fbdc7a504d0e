-- What the units placed before leave to a later one.
use Rattle.std.specs.Prelude.{◌≡◌, ℕ, ℤ, pos, ◌-◌, List, length, slice_index}
use Rattle.circular_buffer.specs.Buffer.{keep_last}
use Rattle.mlp_syntax.specs.declared.major.Kind.{Kind}
use Rattle.mlp_fifo.specs.declared.arrivals.Arrivals.{Arrivals}
use Rattle.mlp_fifo.specs.Pace.{pace_of}
use Rattle.mlp_fifo.specs.Arrivals.{IsGone}
use Rattle.mlp_fifo.specs.Schedule.{IsSchedule, IsEarliest, finish_of}

pub record LeftFifo : Type 0 where
  pub kind : Kind
  pub rate : ℕ
  -- the number of units
  pub count : ℕ
  -- when the last one has arrived
  pub finish : ℕ
  -- the latest 91 lengths, or all of them
  pub latest : List ℕ

abbrev pub left_by : Arrivals → LeftFifo
left_by a = record { kind = a.kind; rate = a.rate; count = a.count; finish = a.finish; latest = a.latest.items }

-- all units but those that may still be held have been output when the last one has arrived
abbrev pub OthersAreOut : Arrivals → Type 0
OthersAreOut a = IsGone a.pace a.count a.finish a.held.units

-- what units of these lengths leave, placed at the times of their earliest schedule
pub record Leaves (kind : Kind) (rate : ℕ) (lengths : List ℕ) (left : LeftFifo) : Type 0 where
  pub kind_is : left.kind ≡ kind
  pub rate_is : left.rate ≡ rate
  pub count_is : left.count ≡ length lengths
  pub latest_is : left.latest ≡ keep_last 91 lengths
  pub times : ℕ → ℕ
  pub earliest : IsEarliest (pace_of kind rate) (slice_index lengths) times (length lengths)
  pub finish_is : left.finish ≡ finish_of (pace_of kind rate) (slice_index lengths) times (length lengths)

-- in the earliest schedule of units of these lengths the last one begins to arrive at this time
pub record LastBegins (kind : Kind) (rate : ℕ) (lengths : List ℕ) (time : ℤ) : Type 0 where
  pub times : ℕ → ℕ
  pub earliest : IsEarliest (pace_of kind rate) (slice_index lengths) times (length lengths)
  pub time_is : time ≡ pos (times (length lengths - 1))

-- units of these lengths have no schedule
abbrev pub HasNone : Kind → ℕ → List ℕ → Type 0
HasNone kind rate lengths =
    (times : ℕ → ℕ) → IsSchedule (pace_of kind rate) (slice_index lengths) times (length lengths) → ⊥

-- what holds of each kind, rate and list of lengths that leave this
abbrev pub EachHistory : LeftFifo → (Kind → ℕ → List ℕ → Type 0) → Type 0
EachHistory left P =
    (kind : Kind) (rate : ℕ) (lengths : List ℕ) → Leaves kind rate lengths left → P kind rate lengths
