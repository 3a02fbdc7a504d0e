-- What an extractor does with the next unit. To a contract it is its decoder.
use Rattle.std.specs.Prelude.{◌≡◌, ℕ, ◌<◌, ◌≤◌, Bool, List, length, Option, Some, None, option_map, Result, Ok}
use Rattle.mlp_syntax.specs.declared.major.MajorSync.{MajorSync}
use Rattle.mlp_syntax.specs.declared.segment.Segment.{Segment}
use Rattle.mlp_syntax.specs.declared.unit.Outer.{Outer}
use Rattle.mlp_layout.specs.Allowed.{Allowed}
use Rattle.mlp_unit.specs.AccessUnit.{AccessUnit, access_unit, substreams_of}
use Rattle.mlp_unit.specs.Shape.{unit_with, HoldsSegments}
use Rattle.mlp_unit.specs.Written.{FirstUsable}
use Rattle.mlp_walk.specs.Next.{Taken}
use Rattle.mlp_stream.specs.declared.refusal.Refusal.{Refusal}
use Rattle.mlp_stream.specs.Moves.{Move}
use Rattle.mlp_answers.specs.Reading.{refusal_of, Reader, read_step}
use Rattle.mlp_contents.specs.Units.{Left, whole}
use Rattle.mlp_present.specs.Decoding.{Held, after_unit, is_open_behind, last_word}
use Rattle.mlp_sessions.specs.Playing.{on_end}
use Rattle.mlp_extract.specs.Extract.{extracted_bytes}

-- ---- one unit

-- it meets the rules behind some first major sync, and has substream k
pub record HasSubstream (k : ℕ) (u : AccessUnit) : Type 0 where
  pub first : Option MajorSync
  pub usable : FirstUsable first
  pub allowed : Allowed (access_unit first) u
  pub there : k < length u.entries

-- these bytes with this outer part are such a unit
pub record HoldsPresentation (k : ℕ) (bytes : List ℕ) (o : Outer) : Type 0 where
  pub most : k ≤ 2
  pub small : length bytes ≤ 8190
  pub inside : HoldsSegments bytes o
  pub has : HasSubstream k (unit_with bytes o)

-- ---- the session

-- what comes out of a unit, and the decoder behind it
abbrev pub given : Held → Taken AccessUnit (List Segment) → Result (List ℕ × Held) Refusal
given held t = Ok (extracted_bytes held.k t.unit.outer, after_unit held t.unit)

abbrev pub extract_count : Held → ℕ
extract_count held = held.units

abbrev pub extract_reader : Reader Held Left AccessUnit (List Segment)
extract_reader = record {
  left = λ held. held.left;
  count = extract_count;
  refusal = λ held. option_map refusal_of held.refusal;
  gives = given;
}

-- of the session's own presentation
abbrev pub extract_step : Held → Bool → List ℕ → Move Held
extract_step held = read_step (whole held.k) (Some held.k) is_open_behind extract_reader held

abbrev pub extract_last : Held → Result (List ℕ) Refusal
extract_last held = on_end (last_word held)

-- between its calls: the presentation exists, and the stream's first major sync met the rules on it
pub record IsExtracting (k : ℕ) (held : Held) : Type 0 where
  pub k_is : held.k ≡ k
  pub most : k ≤ 2
  pub usable : FirstUsable held.left.sync
  pub begins : held.units ≡ 0 → held.left.sync ≡ None
  pub told : 0 < held.units → k < substreams_of held.left.sync
