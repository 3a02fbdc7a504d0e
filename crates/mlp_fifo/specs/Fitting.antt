-- The timings that an encoder gives: those of the earliest schedule.
use Rattle.std.specs.Prelude.{◌≡◌, ℕ, ◌%◌, ◌<◌, List, All, slice_get}
use Rattle.mlp_syntax.specs.declared.major.Kind.{Kind}
use Rattle.mlp_fifo.specs.declared.pace.Pace.{Pace}
use Rattle.mlp_fifo.specs.Pace.{pace_of}
use Rattle.mlp_fifo.specs.Schedule.{out_of, IsEarliest}
use Rattle.mlp_fifo.specs.Timed.{TimedUnit, IsTimed}

-- the timings of an access unit
pub record UnitTimings : Type 0 where
  -- its input timing
  pub input : ℕ
  -- the output timings of its restart headers, that of the first substream first
  pub outputs : List ℕ
  pub bytes : ℕ

-- the first substream's alone
abbrev pub first_timing : UnitTimings → TimedUnit
first_timing u = record { input = u.input; output = slice_get u.outputs 0; bytes = u.bytes }

-- the input timings are the low 16 bits of the times of the earliest schedule, all output timings those of when the
-- units are output
pub record IsFitting (p : Pace) (u : ℕ → UnitTimings) (n : ℕ) : Type 0 where
  pub times : ℕ → ℕ
  pub earliest : IsEarliest p (λ i. (u i).bytes) times n
  pub inputs : (i : ℕ) → i < n → (u i).input ≡ times i % 65536
  pub outputs : (i : ℕ) → i < n → All (λ o. o ≡ out_of p i % 65536) (u i).outputs

-- ---- what is owed

abbrev pub FittingIsTimed : Type 0
FittingIsTimed =
    (kind : Kind) (rate : ℕ) (u : ℕ → UnitTimings) (n : ℕ) → IsFitting (pace_of kind rate) u n
    → IsTimed (pace_of kind rate) (λ i. first_timing (u i)) n
