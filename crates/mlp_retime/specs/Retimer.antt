-- What a retimer knows, and what it does with the next unit.
use Rattle.std.specs.Prelude.{◌≡◌, ℕ, ◌+◌, ◌*◌, ◌%◌, ◌<◌, ◌==◌, Bool, false, List, take, is_none, Option, Some, None, Result, Ok, Err, if◌then◌else◌}
use Rattle.mlp_syntax.specs.declared.major.Kind.TheVariants.{Fba}
use Rattle.mlp_syntax.specs.declared.major.MajorSync.{MajorSync}
use Rattle.mlp_syntax.specs.declared.segment.Segment.{Segment}
use Rattle.mlp_syntax.specs.declared.unit.Outer.{Outer}
use Rattle.mlp_unit.specs.AccessUnit.{AccessUnit, in_force, stream_kind, substreams_of, stream_rate}
use Rattle.mlp_unit.specs.Shape.{unit_with}
use Rattle.mlp_unit.specs.Written.{FirstUsable}
use Rattle.mlp_walk.specs.Next.{Taken, next_of}
use Rattle.mlp_stream.specs.declared.refusal.Refusal.{Refusal}
use Rattle.mlp_stream.specs.Moves.{Move}
use Rattle.mlp_answers.specs.Reading.{Reader, read_step}
use Rattle.mlp_contents.specs.Units.{Left, Unit_of, whole}
use Rattle.mlp_fifo.specs.Pace.{pace_of}
use Rattle.mlp_fifo.specs.Schedule.{out_of}
use Rattle.mlp_fifo.specs.LeftFifo.{LeftFifo}
use Rattle.mlp_fifo.specs.Placed.{placed, emptied}
use Rattle.mlp_present.specs.Parts.{HasOuter, outer_read}
use Rattle.mlp_present.specs.Decoding.{Held, opened, after_unit, is_open_behind, last_word}
use Rattle.mlp_sessions.specs.Playing.{on_end}
use Rattle.mlp_retime.specs.declared.retimer.Timings.{Timings}
use Rattle.mlp_retime.specs.Top.{highest, top}
use Rattle.mlp_cut.specs.Cut.{unit_bytes}
use Rattle.mlp_retime.specs.Retimed.{length_of}
use Rattle.mlp_retime.specs.Stamping.{rewritten}
use Rattle.mlp_retime.specs.Retiming.{fifo_for, behind_placed, retimed_out}

-- a decoder, a buffer, and what was refused
pub record RetimeState : Type 0 where
  pub held : Held
  pub fifo : LeftFifo
  pub refusal : Option Refusal

-- any presentation and any buffer stand for none: the first unit tells them
abbrev pub retime_opened : RetimeState
retime_opened = record { held = opened 0; fifo = emptied Fba 48000; refusal = None }

-- ---- one unit

-- the decoder before a unit with this outer part
abbrev pub decoder_for : Held → AccessUnit → Held
decoder_for held o =
    if is_none held.left.sync then record (opened (highest o.major)) { units = held.units } else held

abbrev pub after_top : Held → Unit_of → Held
after_top held u = after_unit (decoder_for held u.outer) u

-- the buffer before a unit with this major sync, behind a stream's first major sync
abbrev pub buffer_for : Option MajorSync → Option MajorSync → LeftFifo → LeftFifo
buffer_for first major fifo = if is_none first then fifo_for (in_force first major) else fifo

-- this decoder is to take the next unit: it reads what the format reads, and is that of the highest presentation
pub record Begins (old : Held) (next : List ℕ) (new : Held) : Type 0 where
  pub same : next_of top None old.units old.left next ≡ next_of (whole new.k) (Some new.k) new.units new.left next
  pub for_unit : (o : AccessUnit) (end : ℕ) → outer_read old.left.ended old.left.sync next ≡ Ok (o, end)
      → new ≡ decoder_for old o
  pub units : new.units ≡ old.units
  pub sync : new.left.sync ≡ old.left.sync
  pub ended : new.left.ended ≡ old.left.ended
  pub none_refused : new.refusal ≡ None

-- the first unit of these bytes has an outer part that tells this highest presentation
pub record TellsHighest (next : List ℕ) (k : ℕ) : Type 0 where
  pub outer : AccessUnit
  pub end : ℕ
  pub read : outer_read false None next ≡ Ok (outer, end)
  pub k_is : k ≡ highest outer.major
  pub some : 0 < substreams_of outer.major

-- the next unit of these bytes has so many, and this is the decoder behind it
pub record TakesTop (held : Held) (next : List ℕ) (size : ℕ) (new : Held) : Type 0 where
  pub unit : Unit_of
  pub next_is : next_of top None held.units held.left next ≡ Ok (record { size = size; unit = unit })
  pub held_is : new ≡ after_top held unit
  pub outer : Outer
  pub outer_is : unit.outer ≡ unit_with (take size next) outer
  pub latest_is : new.latest ≡ Some outer
  pub has_outer : HasOuter held.left.ended held.left.sync next size outer

-- .. which the first unit tells
abbrev pub buffer_at : ℕ → MajorSync → LeftFifo → LeftFifo
buffer_at number first fifo = if number == 0 then fifo_for (Some first) else fifo

-- a unit of this many bytes is placed, and these are the low 16 bits of its times
pub record IsPlaced (before : LeftFifo) (bytes : ℕ) (behind : LeftFifo) (t : Timings) : Type 0 where
  pub time : ℕ
  pub placed_is : placed before bytes ≡ Ok (time, behind)
  pub input : t.input ≡ time % 65536
  pub output : t.output ≡ out_of (pace_of before.kind before.rate) before.count % 65536

-- the unit of these bytes with this outer part is placed, and comes out with its timings
pub record PutsUnit (first : MajorSync) (before : LeftFifo) (bytes : List ℕ) (o : Outer)
    (behind : LeftFifo) (out : List ℕ) : Type 0 where
  pub time : ℕ
  pub placed_is : placed before (2 * o.head.words) ≡ Ok (time, behind)
  pub out_is :
      let output = out_of (pace_of before.kind before.rate) before.count in
      out ≡ unit_bytes (rewritten first (highest (Some first) + 1) (time % 65536) (output % 65536) bytes o)

-- ---- the session

abbrev pub with_state : Held → LeftFifo → Result (List ℕ) Refusal → Result (List ℕ × RetimeState) Refusal
with_state held fifo (Ok bytes) = Ok (bytes, record { held = held; fifo = fifo; refusal = None })
with_state held fifo (Err refusal) = Err refusal

-- what comes out of a unit, and the session behind it
abbrev pub retime_given : RetimeState → Taken AccessUnit (List Segment) → Result (List ℕ × RetimeState) Refusal
retime_given s t =
    let sync = in_force s.held.left.sync t.unit.outer.major in
    let fifo = buffer_for s.held.left.sync t.unit.outer.major s.fifo in
    with_state (after_top s.held t.unit) (behind_placed fifo (placed fifo (length_of t.unit)))
    (retimed_out sync s.held.units fifo t.unit)

abbrev pub retime_count : RetimeState → ℕ
retime_count s = s.held.units

abbrev pub retime_reader : Reader RetimeState Left AccessUnit (List Segment)
retime_reader = record {
  left = λ s. s.held.left;
  count = retime_count;
  refusal = λ s. s.refusal;
  gives = retime_given;
}

abbrev pub retime_step : RetimeState → Bool → List ℕ → Move RetimeState
retime_step = read_step top None is_open_behind retime_reader

-- nothing comes out at the end
abbrev pub last_said : Option Refusal → Held → Result (List ℕ) Refusal
last_said None held = on_end (last_word held)
last_said (Some refusal) held = Err refusal

abbrev pub retime_last : RetimeState → Result (List ℕ) Refusal
retime_last s = last_said s.refusal s.held

-- ---- what holds of a session between its calls

-- a decoder that has taken units is that of the highest presentation
pub record IsTold (held : Held) : Type 0 where
  pub k_is : held.k ≡ highest held.left.sync
  pub synced : is_none held.left.sync ≡ false
  pub none_refused : held.refusal ≡ None

pub record IsTop (held : Held) : Type 0 where
  pub usable : FirstUsable held.left.sync
  pub begins : held.units ≡ 0 → held ≡ opened 0
  pub told : 0 < held.units → IsTold held

-- .. and the buffer that of its units
pub record IsBuffer (held : Held) (fifo : LeftFifo) : Type 0 where
  pub kind : fifo.kind ≡ stream_kind held.left.sync
  pub rate : fifo.rate ≡ stream_rate held.left.sync
  pub count : fifo.count ≡ held.units

pub record IsRetiming (held : Held) (fifo : LeftFifo) (refusal : Option Refusal) : Type 0 where
  pub usable : FirstUsable held.left.sync
  pub is_top : refusal ≡ None → IsTop held
  pub buffer : refusal ≡ None → 0 < held.units → IsBuffer held fifo
