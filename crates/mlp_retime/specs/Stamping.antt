-- Other output timings in the bits of a unit.
use Rattle.std.specs.Prelude.{◌≡◌, ℕ, zero, suc, ◌+◌, ◌*◌, ◌<◌, ◌≤◌, Bool, List, [], ◌++◌, length, drop, Result, Ok, Err, Option, Some, None, is_some, if◌then◌else◌}
use Rattle.mlp_syntax.specs.declared.fault.Broken.{Broken}
use Rattle.mlp_syntax.specs.declared.major.MajorSync.{MajorSync}
use Rattle.mlp_syntax.specs.declared.segment.Segment.{Segment}
use Rattle.mlp_syntax.specs.declared.unit.DirEntry.{DirEntry}
use Rattle.mlp_syntax.specs.declared.unit.Outer.{Outer}
use Rattle.mlp_bits.specs.Bits.{bits_of}
use Rattle.mlp_unit.specs.AccessUnit.{AccessUnit, in_force, substreams_of}
use Rattle.mlp_unit.specs.Shape.{end_before, HoldsSegments, segment_bits}
use Rattle.mlp_unit.specs.Written.{Writable, unit_size, written_unit}
use Rattle.mlp_substream.specs.declared.known.Place.{Place}
use Rattle.mlp_substream.specs.Checks.{bytes_of}
use Rattle.mlp_substream.specs.Segment.{segment, unknown}
use Rattle.mlp_substream.specs.Timings.{stamped}
use Rattle.mlp_contents.specs.Units.{is_checked, place_by}
use Rattle.mlp_retime.specs.Retimed.{own_text}

-- the text of a segment of a unit with a major sync, with this output timing; bits that are none stay
abbrev pub stamped_text : Place → ℕ → List Bool → Result Segment Broken → List Bool
stamped_text place output bits (Ok s) = own_text place (stamped output s)
stamped_text place output bits (Err e) = bits

abbrev pub restamped : Place → ℕ → Bool → List Bool → List Bool
restamped place output checked bits = stamped_text place output bits ((segment place unknown None checked).read bits)

-- of n segments of a unit, from substream j on
abbrev pub restamped_from : Place → ℕ → List ℕ → Outer → ℕ → ℕ → List Bool
restamped_from place output bytes o j zero = []
restamped_from place output bytes o j (suc n) =
    restamped place output (is_checked o.entries.items j) (segment_bits bytes o j)
    ++ restamped_from place output bytes o (suc j) n

-- .. of the first n, and what stands behind them
abbrev pub restamped_body : Place → ℕ → ℕ → List ℕ → Outer → List ℕ
restamped_body place n output bytes o =
    bytes_of (restamped_from place output bytes o 0 n
    ++ bits_of (drop (o.body + 2 * end_before o.entries.items n) bytes))

-- the entries are as many as some first major sync tells
pub record IsCounted (major : Option MajorSync) (entries : List DirEntry) : Type 0 where
  pub first : Option MajorSync
  pub count : substreams_of (in_force first major) ≡ length entries

-- a unit of these bytes with this outer part can be written again, and has as many segments as its stream
pub record HoldsUnit (count : ℕ) (bytes : List ℕ) (o : Outer) : Type 0 where
  pub some : 0 < count
  pub there : count ≤ length o.entries.items
  pub small : length bytes ≤ 8190
  pub inside : HoldsSegments bytes o
  pub writable : Writable o.major o.entries.items (drop o.body bytes)
  pub counted : IsCounted o.major o.entries.items
  pub size : unit_size o.major o.entries.items (drop o.body bytes) ≤ 8190

-- the unit with these timings, of which the first n segments are read
abbrev pub rewritten : MajorSync → ℕ → ℕ → ℕ → List ℕ → Outer → AccessUnit
rewritten first n input output bytes o =
    written_unit input o.major o.entries.items
    (if is_some o.major then restamped_body (place_by (Some first) o.major) n output bytes o else drop o.body bytes)
