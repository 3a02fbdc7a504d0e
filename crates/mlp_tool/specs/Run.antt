-- What a run says.
use Rattle.std.specs.Prelude.{◌≡◌, ℕ, ◌+◌, ◌≤◌, List, length, take, Result, Err, Option, Some, None}
use Rattle.std.specs.Io.KnownBytes.{Consumes, Appends}
use Rattle.mlp_io.specs.Causes.{Rose}
use Rattle.mlp_stream.specs.declared.stop.Stop.{Stop}
use Rattle.mlp_stream.specs.Sides.{Side}
use Rattle.mlp_io.specs.Limit.{limit}
use Rattle.mlp_answers.specs.declared.failure.Failure.{Failure}
use Rattle.mlp_answers.specs.declared.failure.Failure.TheVariants.{Usage}
use Rattle.mlp_tool.specs.declared.words.Command.{Command}
use Rattle.mlp_tool.specs.declared.words.Command.TheVariants as command
use Rattle.mlp_tool.specs.Words.{plain, presentation_in}
use Rattle.mlp_tool.specs.Lines.{status_of, line_of}
use Rattle.mlp_answers.specs.Working.{Working}
use Rattle.mlp_answers.specs.Works.{Works}
use Rattle.mlp_check.specs.Runs.{Checks}
use Rattle.mlp_cut.specs.Cutting.{cutting}
use Rattle.mlp_editing.specs.Mended.{Mended}
use Rattle.mlp_encoding.specs.Encodes.{EncodesRaw}
use Rattle.mlp_encoding.specs.Wave.{EncodesWave}
use Rattle.mlp_extract.specs.Extracting.{extracting}
use Rattle.mlp_gen.specs.Generated.{Generates}
use Rattle.mlp_retime.specs.Runs.{Retimes}
use Rattle.mlp_sessions.specs.Listing.{listing}
use Rattle.mlp_sessions.specs.Playing.{playing}
use Rattle.mlp_answers.specs.Failures.{end_of}
use Rattle.mlp_wave.specs.Saved.{Saved}

-- the work was done, or stopped
abbrev pub Did : {L O C : Type 0} → Working L O C → Side → Side → Result Unit Failure → Type 0
Did working input output end = (stop : Result Unit Stop) × (end ≡ end_of stop) × Works working input output stop

-- what a command makes of an input and an output; where there is none, both are left alone
abbrev pub Does : Option Command → Side → Side → Result Unit Failure → Type 0
Does None input output end = (end ≡ Err Usage) × (input.behind ≡ input.before) × (output.behind ≡ output.before)
Does (Some (command.DecodeRaw presentation bits)) input output end = Did (playing presentation bits) input output end
Does (Some (command.DecodeWav presentation bits)) input output end = Saved presentation bits input output end
Does (Some (command.Extract presentation)) input output end = Did (extracting presentation) input output end
Does (Some command.List) input output end = Did listing input output end
Does (Some (command.Check presentation)) input output end = Checks presentation input output end
Does (Some (command.Cut first count)) input output end = Did (cutting first count) input output end
Does (Some (command.Recover presentation)) input output end = Mended presentation input output end
Does (Some command.Retime) input output end = Retimes input output end
Does (Some (command.EncodeRaw profile)) input output end = EncodesRaw profile input output end
Does (Some (command.EncodeWav kind mix)) input output end = EncodesWave kind mix input output end
Does (Some (command.Gen profile units seed)) input output end =
    Generates profile seed units output end × (input.behind ≡ input.before)

-- no more bytes were taken than one past the limit
abbrev pub TakesFew : Side → Type 0
TakesFew input = (taken : List ℕ) × Consumes input.before input.behind taken × (length taken ≤ limit + 1)

-- a line was told: the front of it, and the whole unless a fault came
pub record Told (line : List ℕ) (before now : ℕ) (errors : Side) : Type 0 where
  pub front : (n : ℕ) × Appends errors.before errors.behind (take n line)
  pub whole : (Rose before now → ⊥) → Appends errors.before errors.behind line

-- what a run of these words makes of an input, of an output and of a place for lines, which has these counts of faults
pub record Ran (words : List (List ℕ)) (input output errors : Side) (before now : ℕ) (status : ℕ) : Type 0 where
  pub end : Result Unit Failure
  pub status_is : status ≡ status_of end
  pub does : Does (plain words) input output end
  pub few : TakesFew input
  pub tells : Told (line_of (presentation_in (plain words)) end) before now errors
