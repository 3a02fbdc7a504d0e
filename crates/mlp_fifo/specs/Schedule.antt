-- When access units arrive, what is held of them, and which times are a schedule.
use Rattle.std.specs.Prelude.{◌≡◌, ◌⊎◌, ℕ, zero, suc, ◌+◌, ◌*◌, ◌<◌, ◌≤◌, nat_le, nat_lt, ◌&&◌, if◌then◌else◌}
use Rattle.std.specs.Int.{div_ceil}
use Rattle.mlp_syntax.specs.declared.major.Kind.{Kind}
use Rattle.mlp_fifo.specs.declared.pace.Pace.{Pace}
use Rattle.mlp_fifo.specs.Pace.{pace_of, single_most}

-- the sample period in which unit i is output
unfoldable pub out_of : Pace → ℕ → ℕ
out_of p i = (p.latency + i) * p.unit

-- the sample periods that a unit of this many bytes takes to arrive: 128 sixteenths of a bit a byte
unfoldable pub duration_of : Pace → ℕ → ℕ
duration_of p bytes = div_ceil (128 * bytes) p.peak

-- what is held of unit i at a time: all of it from when it begins to arrive until its output
abbrev held_of : Pace → (ℕ → ℕ) → (ℕ → ℕ) → ℕ → ℕ → ℕ
held_of p b t time i = if nat_le (t i) time && nat_lt time (out_of p i) then b i else 0

-- what is held of the first n units
abbrev pub held : Pace → (ℕ → ℕ) → (ℕ → ℕ) → ℕ → ℕ → ℕ
held p b t zero time = 0
held p b t (suc n) time = held p b t n time + held_of p b t time n

-- The first n units, of b bytes each, may begin to arrive at the times t: none before its turn, each is there in time
-- for its output, one after the other, and the buffer holds what is held.
pub record IsSchedule (p : Pace) (b t : ℕ → ℕ) (n : ℕ) : Type 0 where
  pub start : (i : ℕ) → i < n → i * p.unit ≤ t i
  pub in_time : (i : ℕ) → i < n → t i + duration_of p (b i) ≤ out_of p i
  pub apart : (i : ℕ) → suc i < n → t i + duration_of p (b i) ≤ t (suc i)
  pub room : (time : ℕ) → held p b t n time ≤ p.size

-- the schedule whose every time is the least that it has in any schedule
pub record IsEarliest (p : Pace) (b t : ℕ → ℕ) (n : ℕ) : Type 0 where
  pub is_schedule : IsSchedule p b t n
  pub earliest : (s : ℕ → ℕ) → IsSchedule p b s n → (i : ℕ) → i < n → t i ≤ s i

-- when the last of the first n units has arrived
abbrev pub finish_of : Pace → (ℕ → ℕ) → (ℕ → ℕ) → ℕ → ℕ
finish_of p b t zero = 0
finish_of p b t (suc n) = t n + duration_of p (b n)

-- ---- what is owed

-- a unit's duration is the least in which its bits come at the peak data rate
abbrev pub DurationIsEnough : Type 0
DurationIsEnough = (p : Pace) (bytes : ℕ) → 0 < p.peak → 128 * bytes ≤ duration_of p bytes * p.peak

abbrev pub DurationIsLeast : Type 0
DurationIsLeast = (p : Pace) (bytes d : ℕ) → 0 < p.peak → 128 * bytes ≤ d * p.peak → duration_of p bytes ≤ d

-- where units have a schedule they have an earliest one
abbrev pub HasEarliest : Type 0
HasEarliest = (p : Pace) (b s : ℕ → ℕ) (n : ℕ)
    → IsSchedule p b s n → (t : ℕ → ℕ) × IsEarliest p b t n

-- .. which has one list of times
abbrev pub EarliestIsOne : Type 0
EarliestIsOne =
    (p : Pace) (b t u : ℕ → ℕ) (n : ℕ) → IsEarliest p b t n
    → IsEarliest p b u n → (i : ℕ) → i < n → t i ≡ u i

-- .. and begins with the earliest schedule of the units before
abbrev pub EarliestBegins : Type 0
EarliestBegins = (p : Pace) (b t : ℕ → ℕ) (m n : ℕ) → m ≤ n → IsEarliest p b t n → IsEarliest p b t m

-- at 44100 and 48000 samples a second units that are not too long each begin at their turn
abbrev pub SingleRatesTakeTurns : Type 0
SingleRatesTakeTurns =
    (kind : Kind) (rate : ℕ) (b : ℕ → ℕ) (n : ℕ) → (rate ≡ 44100) ⊎ (rate ≡ 48000)
    → ((i : ℕ) → i < n → b i ≤ single_most kind) → IsEarliest (pace_of kind rate) b (λ i. i * 40) n

-- a schedule stays one where units get shorter
abbrev pub ShorterIsSchedule : Type 0
ShorterIsSchedule =
    (p : Pace) (b c t : ℕ → ℕ) (n : ℕ)
    → 0 < p.peak → ((i : ℕ) → i < n → c i ≤ b i) → IsSchedule p b t n → IsSchedule p c t n
