-- Where one unit more is placed, as a function of what the units before leave.
use Rattle.std.specs.Prelude.{◌≡◌, ℕ, zero, suc, ℤ, pos, ◌+◌, ◌-◌, ◌*◌, ◌<◌, max, Bool, nat_le, nat_lt, if◌then◌else◌}
use Rattle.std.specs.Prelude.{List, [], ◌∷◌, ◌++◌, length, take, slice_index, Result, Ok, Err, IsOk}
use Rattle.std.specs.Int.RustNames.{unsigned_abs}
use Rattle.circular_buffer.specs.Buffer.{keep_last}
use Rattle.mlp_syntax.specs.declared.major.Kind.{Kind}
use Rattle.mlp_syntax.specs.declared.refusal.NoRoom.{NoRoom}
use Rattle.mlp_fifo.specs.declared.pace.Pace.{Pace}
use Rattle.mlp_fifo.specs.Pace.{pace_of}
use Rattle.mlp_fifo.specs.Schedule.{out_of, duration_of, IsSchedule, IsEarliest}
use Rattle.mlp_fifo.specs.LeftFifo.{LeftFifo, Leaves, LastBegins, HasNone, EachHistory}

-- the first time that passes, from one on and at most so many periods later; the last of these where none does
unfoldable pub first_time : (ℕ → Bool) → ℕ → ℕ → ℕ
first_time passes zero from = from
first_time passes (suc more) from = if passes from then from else first_time passes more (suc from)

-- of units of these lengths, of which the first is unit n, the bytes that have not been output at a time
abbrev pub load_from : Pace → ℕ → List ℕ → ℕ → ℕ
load_from p n [] time = 0
load_from p n (b ∷ bs) time = (if nat_lt time (out_of p n) then b else 0) + load_from p (suc n) bs time

-- of the latest of so many units and one more of this many bytes, the bytes that have not been output at a time
abbrev pub latest_load : Pace → List ℕ → ℕ → ℕ → ℕ → ℕ
latest_load p latest count bytes time = load_from p (count - length latest) (latest ++ bytes ∷ []) time

-- when a unit of this many bytes begins to arrive: the first time from its turn on, and from when the last unit has
-- arrived, at which the buffer has room for it
unfoldable pub begins : LeftFifo → ℕ → ℕ
begins left bytes =
    let p = pace_of left.kind left.rate in
    let has_room = λ (time : ℕ). nat_le (latest_load p left.latest left.count bytes time) p.size in
    first_time has_room (p.latency * p.unit) (max (left.count * p.unit) left.finish)

-- what the units before leave with one more, of this many bytes, that has arrived at a finish
abbrev pub with_unit : LeftFifo → ℕ → ℕ → LeftFifo
with_unit left bytes finish =
    record left { count = left.count + 1; finish = finish; latest = keep_last 91 (left.latest ++ bytes ∷ []) }

-- its time and what it leaves, or that it has not arrived by the time of its output
unfoldable pub placed : LeftFifo → ℕ → Result (ℕ × LeftFifo) NoRoom
placed left bytes =
    let p = pace_of left.kind left.rate in
    let finish = begins left bytes + duration_of p bytes in
    if nat_lt (out_of p left.count) finish then Err (record { unit = left.count; bytes = bytes })
    else Ok (begins left bytes, with_unit left bytes finish)

-- what placing answers and leaves
abbrev pub answered : Result ℤ NoRoom → LeftFifo → Result (ℕ × LeftFifo) NoRoom
answered (Ok time) left = Ok (unsigned_abs time, left)
answered (Err e) left = Err e

-- no unit
abbrev pub emptied : Kind → ℕ → LeftFifo
emptied kind rate = record { kind = kind; rate = rate; count = 0; finish = 0; latest = [] }

abbrev pub with_time : ℕ → Result (List ℕ × LeftFifo) NoRoom → Result (List ℕ × LeftFifo) NoRoom
with_time time (Ok r) = Ok (time ∷ r.0, r.1)
with_time time (Err e) = Err e

-- the times of units of these lengths, placed one after the other, and what they leave
abbrev pub placed_all : List ℕ → LeftFifo → Result (List ℕ × LeftFifo) NoRoom
placed_all [] left = Ok ([], left)
placed_all (b ∷ bs) left = elim (placed left b) [ Ok r ↦ with_time r.0 (placed_all bs r.1) | Err e ↦ Err e ]

-- ---- what placing means

-- in the earliest schedule of units of these lengths they begin at these times
pub record BeginAt (kind : Kind) (rate : ℕ) (lengths times : List ℕ) : Type 0 where
  pub as_many : length times ≡ length lengths
  pub earliest : IsEarliest (pace_of kind rate) (slice_index lengths) (slice_index times) (length lengths)

-- the units up to this one have no schedule, and those before it have
pub record LacksRoom (kind : Kind) (rate : ℕ) (lengths : List ℕ) (e : NoRoom) : Type 0 where
  pub within : e.unit < length lengths
  pub bytes_are : e.bytes ≡ slice_index lengths e.unit
  pub none : HasNone kind rate (take (suc e.unit) lengths)
  pub before : ℕ → ℕ
  pub before_is : IsSchedule (pace_of kind rate) (slice_index lengths) before e.unit

-- what it means to place the last of units of these lengths
abbrev pub PlacedMeans : Kind → ℕ → List ℕ → Result (ℕ × LeftFifo) NoRoom → Type 0
PlacedMeans kind rate lengths (Ok r) = LastBegins kind rate lengths (pos r.0) × Leaves kind rate lengths r.1
PlacedMeans kind rate lengths (Err e) = HasNone kind rate lengths × (suc e.unit ≡ length lengths)

-- what it means to place all of them
abbrev pub AllPlacedMean : Kind → ℕ → List ℕ → Result (List ℕ × LeftFifo) NoRoom → Type 0
AllPlacedMean kind rate lengths (Ok r) = BeginAt kind rate lengths r.0 × Leaves kind rate lengths r.1
AllPlacedMean kind rate lengths (Err e) = LacksRoom kind rate lengths e

-- ---- what is owed

abbrev pub EachPlaced : Type 0
EachPlaced =
    (left : LeftFifo) (bytes : ℕ)
    → EachHistory left (λ kind rate lengths. PlacedMeans kind rate (lengths ++ bytes ∷ []) (placed left bytes))

abbrev pub AllPlaced : Type 0
AllPlaced =
    (kind : Kind) (rate : ℕ) (lengths : List ℕ)
    → AllPlacedMean kind rate lengths (placed_all lengths (emptied kind rate))

-- units that have a schedule are all placed
abbrev pub AllHaveRoom : Type 0
AllHaveRoom =
    (kind : Kind) (rate : ℕ) (lengths : List ℕ) (times : ℕ → ℕ)
    → IsSchedule (pace_of kind rate) (slice_index lengths) times (length lengths)
    → IsOk (placed_all lengths (emptied kind rate))
