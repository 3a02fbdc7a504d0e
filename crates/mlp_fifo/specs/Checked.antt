-- What a unit with its timings leaves, as a function of what the units before leave.
use Rattle.std.specs.Prelude.{ℕ, ◌+◌, ◌-◌, ◌*◌, ◌%◌, ◌<◌, ◌==◌, ◌&&◌, Bool, true, nat_le}
use Rattle.std.specs.Prelude.{[], ◌∷◌, ◌++◌, Option, Some, None}
use Rattle.circular_buffer.specs.Buffer.{keep_last}
use Rattle.mlp_syntax.specs.declared.major.Kind.{Kind}
use Rattle.mlp_fifo.specs.declared.pace.Pace.{Pace}
use Rattle.mlp_fifo.specs.Pace.{pace_of}
use Rattle.mlp_fifo.specs.Schedule.{out_of, duration_of}
use Rattle.mlp_fifo.specs.Placed.{latest_load}
use Rattle.mlp_fifo.specs.Timed.{TimedUnit, LeftChecker, LeavesWith}

-- no unit
abbrev pub empty_checker : Kind → ℕ → LeftChecker
empty_checker kind rate = record { kind = kind; rate = rate; count = 0; finish = 0; latest = []; timed = true }

-- the least time from a start on whose low 16 bits are these
unfoldable pub time_with_low : ℕ → ℕ → ℕ
time_with_low start low = start + (low + 65536 - start % 65536) % 65536

-- when the next unit begins to arrive, by its input timing
abbrev pub time_of : LeftChecker → TimedUnit → ℕ
time_of left u = time_with_low (left.count * (pace_of left.kind left.rate).unit) u.input

-- an output timing, if there is one, is the low 16 bits of the time of output
abbrev pub is_output : Option ℕ → ℕ → Bool
is_output None out = true
is_output (Some o) out = o == out % 65536

-- a unit may begin at this time behind the units before: the last one has arrived, there is room, and it is there in
-- time for its output, whose time its output timing tells
abbrev pub admits : Pace → LeftChecker → ℕ → ℕ → Option ℕ → Bool
admits p left time bytes output =
    nat_le left.finish time
    && (nat_le (latest_load p left.latest left.count bytes time) p.size
    && (nat_le (time + duration_of p bytes) (out_of p left.count) && is_output output (out_of p left.count)))

unfoldable pub checked_after : LeftChecker → TimedUnit → LeftChecker
checked_after left u =
    let p = pace_of left.kind left.rate in record {
      kind = left.kind;
      rate = left.rate;
      count = left.count + 1;
      finish = time_of left u + duration_of p u.bytes;
      latest = keep_last 91 (left.latest ++ u.bytes ∷ []);
      timed = left.timed && admits p left (time_of left u) u.bytes u.output;
    }

-- ---- what is owed

abbrev pub EachChecked : Type 0
EachChecked =
    (left : LeftChecker) (u : TimedUnit) → u.input < 65536 → LeavesWith left u (checked_after left u)
