-- What `list` makes of a stream.
use Rattle.std.specs.Prelude.{◌≡◌, ℕ, ◌==◌, if◌then◌else◌, Bool, List, [], length, Option, None, Result, Ok, Err}
use Rattle.std.specs.Option.{option_map}
use Rattle.mlp_syntax.specs.declared.major.MajorSync.{MajorSync}
use Rattle.mlp_layout.specs.Streams.{UnitOf}
use Rattle.mlp_unit.specs.AccessUnit.{AccessUnit}
use Rattle.mlp_unit.specs.Outline.{outline}
use Rattle.mlp_walk.specs.Next.{Taken}
use Rattle.mlp_stream.specs.declared.refusal.Refusal.{Refusal}
use Rattle.mlp_stream.specs.Moves.{Move}
use Rattle.mlp_answers.specs.Working.{Working}
use Rattle.mlp_answers.specs.Reading.{refusal_of, no_unit, Reader, read_step}
use Rattle.mlp_outline.specs.Next.{is_open}
use Rattle.mlp_outline.specs.Outlining.{Outlined, after_outline}
use Rattle.mlp_sessions.specs.ListLine.{unit_line}

abbrev pub OutlineUnit : Type 0
OutlineUnit = UnitOf AccessUnit (Unit {0})

abbrev pub is_open_outline : Option MajorSync → List ℕ → Bool
is_open_outline first bytes = is_open bytes

-- the line of each unit, by the outer parts alone
abbrev pub listing : Working (Option MajorSync) AccessUnit (Unit {0})
listing = record {
  format = outline;
  start = None;
  wanted = None;
  is_open = is_open_outline;
  out = λ us u. Ok (unit_line (length us) u.outer);
  Ends = λ us last. last ≡ Ok [];
}

-- ---- the session

-- the line of the next unit, and what is known behind it
abbrev pub listed : Outlined → Taken AccessUnit (Unit {0}) → Result (List ℕ × Outlined) Refusal
listed held t = Ok (unit_line held.units t.unit.outer, after_outline held (Ok t))

abbrev pub list_count : Outlined → ℕ
list_count held = held.units

abbrev pub list_reader : Reader Outlined (Option MajorSync) AccessUnit (Unit {0})
list_reader = record {
  left = λ held. held.first;
  count = list_count;
  refusal = λ held. option_map refusal_of held.refusal;
  gives = listed;
}

abbrev pub list_step : Outlined → Bool → List ℕ → Move Outlined
list_step = read_step outline None is_open_outline list_reader

abbrev pub list_last : Outlined → Result (List ℕ) Refusal
list_last held = if held.units == 0 then Err no_unit else Ok []
