-- What `check` makes of a stream, for presentation k.
use Rattle.std.specs.Prelude.{◌≡◌, ◌↔◌, ℕ, ◌*◌, IsTrue, List, [], length, map, count_by, Option, Some, option_map, is_some, Result, Ok}
use Rattle.mlp_syntax.specs.declared.major.MajorSync.{MajorSync}
use Rattle.mlp_syntax.specs.declared.segment.Segment.{Segment}
use Rattle.mlp_syntax.specs.declared.unit.UnitHead.{UnitHead}
use Rattle.mlp_unit.specs.AccessUnit.{AccessUnit, stream_kind, stream_rate}
use Rattle.mlp_layout.specs.Streams.{left_after}
use Rattle.mlp_stream.specs.declared.refusal.Refusal.{Refusal}
use Rattle.mlp_answers.specs.Working.{Working}
use Rattle.mlp_contents.specs.Known.{first_restart}
use Rattle.mlp_contents.specs.Units.{Left, Unit_of, start, whole, top_of}
use Rattle.mlp_fifo.specs.Timed.{TimedUnit, AreTimed}
use Rattle.mlp_present.specs.Decoding.{channels_by, is_open_behind}
use Rattle.mlp_samples.specs.Samples.{frames_by_steps}
use Rattle.mlp_check.specs.declared.report.Report.{Report}
use Rattle.mlp_check.specs.Report.{report_text}
use Rattle.mlp_samples.specs.Behind.{left_behind}

-- ---- the timing of a stream

-- the output timing of substream 0's restart header, if the unit has one
abbrev pub output_timing : Unit_of → Option ℕ
output_timing u = option_map (λ r. r.output_timing) (first_restart (top_of 0 u.contents).blocks.items)

-- by a head, which tells the input timing and the length in words, extra data among them
abbrev pub timing_in : UnitHead → Option ℕ → TimedUnit
timing_in head output = record { input = head.timing; output = output; bytes = 2 * head.words }

abbrev pub timed_unit : Unit_of → TimedUnit
timed_unit u = timing_in u.outer.head (output_timing u)

-- the units have the timing of a stream of this kind and rate, which its first major sync tells
abbrev pub KeepTiming : Option MajorSync → List Unit_of → Type 0
KeepTiming sync us = AreTimed (stream_kind sync) (stream_rate sync) (map timed_unit us)

-- ---- the command

-- what is said of these units
pub record IsReport (k : ℕ) (us : List Unit_of) (r : Report) : Type 0 where
  pub units : r.units ≡ length us
  pub frames : r.frames ≡ length (frames_by_steps k (start k) us)
  pub channels : r.channels ≡ channels_by k (left_behind k us)
  pub rate : r.rate ≡ stream_rate (left_behind k us).sync
  pub restarts : r.restarts ≡ count_by (λ u. is_some u.outer.major) us
  pub timed : IsTrue r.timed ↔ KeepTiming (left_behind k us).sync us

abbrev pub Reports : ℕ → List Unit_of → Result (List ℕ) Refusal → Type 0
Reports k us last = (r : Report) × IsReport k us r × (last ≡ Ok (report_text r))

-- nothing comes out of a unit, and six lines at the end
abbrev pub checking : ℕ → Working Left AccessUnit (List Segment)
checking k = record {
  format = whole k;
  start = start k;
  wanted = Some k;
  is_open = is_open_behind;
  out = λ us u. Ok [];
  Ends = Reports k;
}
