-- What a session of `check` knows, and what it does with the next unit.
use Rattle.std.specs.Prelude.{◌≡◌, ◌≤◌, ℕ, ◌+◌, ◌*◌, ◌==◌, Bool, List, [], length, Option, Some, None, is_some, Result, Ok, Err, if◌then◌else◌}
use Rattle.std.specs.Option.{option_map}
use Rattle.mlp_syntax.specs.declared.major.Kind.TheVariants.{Fba}
use Rattle.mlp_syntax.specs.declared.major.MajorSync.{MajorSync}
use Rattle.mlp_syntax.specs.declared.segment.Segment.{Segment}
use Rattle.mlp_syntax.specs.declared.unit.UnitHead.{UnitHead}
use Rattle.mlp_major.specs.MajorSync.{kind_of, rate_in_hertz}
use Rattle.mlp_unit.specs.AccessUnit.{AccessUnit, stream_rate}
use Rattle.mlp_unit.specs.Written.{FirstUsable}
use Rattle.mlp_walk.specs.declared.refusal.Refusal.{Refusal as Declined}
use Rattle.mlp_walk.specs.Next.{Taken}
use Rattle.mlp_stream.specs.declared.refusal.Refusal.{Refusal}
use Rattle.mlp_stream.specs.Moves.{Move}
use Rattle.mlp_answers.specs.Reading.{refusal_of, Reader, read_step}
use Rattle.mlp_contents.specs.Units.{Left, Unit_of, whole, frames_out}
use Rattle.mlp_fifo.specs.Timed.{LeftChecker}
use Rattle.mlp_fifo.specs.Checked.{empty_checker, checked_after}
use Rattle.mlp_present.specs.Decoding.{Held, opened, after_unit, is_open_behind, last_word}
use Rattle.mlp_check.specs.declared.report.Report.{Report}
use Rattle.mlp_check.specs.Report.{report_text}
use Rattle.mlp_check.specs.Checking.{timing_in}

-- a decoder, a checker of timings, and of the units taken the number of frames and of major syncs
pub record CheckState : Type 0 where
  pub held : Held
  pub checker : LeftChecker
  pub frames : ℕ
  pub restarts : ℕ

-- any checker stands for none: the first unit tells kind and rate
abbrev pub check_opened : ℕ → CheckState
check_opened k = record { held = opened k; checker = empty_checker Fba 48000; frames = 0; restarts = 0 }

-- a checker that has taken so many units, before the next one, which has this major sync
abbrev pub begun : ℕ → Option MajorSync → LeftChecker → LeftChecker
begun number None checker = checker
begun number (Some m) checker = if number == 0 then empty_checker (kind_of m.format) (rate_in_hertz m) else checker

-- .. and behind it
abbrev pub timed_after : ℕ → UnitHead → Option MajorSync → Option ℕ → LeftChecker → LeftChecker
timed_after number head major output checker = checked_after (begun number major checker) (timing_in head output)

abbrev pub one_if : Bool → ℕ
one_if b = if b then 1 else 0

-- behind one more unit
abbrev pub after_checked : CheckState → Unit_of → CheckState
after_checked s u = record {
  held = after_unit s.held u;
  checker = timed_after s.held.units u.outer.head u.outer.major (after_unit s.held u).timing s.checker;
  frames = s.frames + length (frames_out s.held.k s.held.left u);
  restarts = s.restarts + one_if (is_some u.outer.major);
}

-- nothing comes out of it
abbrev pub checked_unit : CheckState → Taken AccessUnit (List Segment) → Result (List ℕ × CheckState) Refusal
checked_unit s t = Ok ([], after_checked s t.unit)

abbrev pub check_count : CheckState → ℕ
check_count s = s.held.units

abbrev pub check_reader : Reader CheckState Left AccessUnit (List Segment)
check_reader = record {
  left = λ s. s.held.left;
  count = check_count;
  refusal = λ s. option_map refusal_of s.held.refusal;
  gives = checked_unit;
}

-- of the session's own presentation
abbrev pub check_step : CheckState → Bool → List ℕ → Move CheckState
check_step s = read_step (whole s.held.k) (Some s.held.k) is_open_behind check_reader s

-- ---- the end

abbrev pub report_of : CheckState → Report
report_of s = record {
  units = s.held.units;
  frames = s.frames;
  channels = s.held.channels;
  rate = stream_rate s.held.left.sync;
  restarts = s.restarts;
  timed = s.checker.timed;
}

abbrev pub report_after : Report → Result (Unit {0}) Declined → Result (List ℕ) Refusal
report_after r (Ok _) = Ok (report_text r)
report_after r (Err refusal) = Err (refusal_of refusal)

abbrev pub check_last : CheckState → Result (List ℕ) Refusal
check_last s = report_after (report_of s) (last_word s.held)

-- ---- what holds of a session between its calls

-- each unit was checked, of at most 160 frames, and the stream has one of the six rates
pub record IsChecking (held : Held) (checker : LeftChecker) (timed : Bool) (frames restarts : ℕ) : Type 0 where
  pub count_is : checker.count ≡ held.units
  pub timed_is : timed ≡ checker.timed
  pub few : frames ≤ 160 * held.units
  pub fewer : restarts ≤ held.units
  pub usable : FirstUsable held.left.sync
