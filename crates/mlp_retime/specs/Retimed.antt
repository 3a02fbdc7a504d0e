-- A stream with fresh timings.
use Rattle.std.specs.Prelude.{◌≡◌, ℕ, suc, ◌*◌, ◌%◌, Bool, List, [], ◌∷◌, ◌++◌, length, map, drop, Option, None, is_some, if◌then◌else◌}
use Rattle.std.specs.List.{flat_map}
use Rattle.mlp_syntax.specs.declared.major.MajorSync.{MajorSync}
use Rattle.mlp_syntax.specs.declared.segment.Segment.{Segment}
use Rattle.mlp_bits.specs.Bits.{bits_of}
use Rattle.mlp_unit.specs.AccessUnit.{AccessUnit, stream_kind, stream_rate}
use Rattle.mlp_unit.specs.Shape.{end_before}
use Rattle.mlp_unit.specs.Written.{written_unit}
use Rattle.mlp_substream.specs.declared.known.Place.{Place}
use Rattle.mlp_substream.specs.Checks.{bytes_of}
use Rattle.mlp_substream.specs.Segment.{segment, unknown}
use Rattle.mlp_substream.specs.Timings.{stamped}
use Rattle.mlp_contents.specs.Units.{Unit_of, place_by}
use Rattle.mlp_fifo.specs.declared.pace.Pace.{Pace}
use Rattle.mlp_fifo.specs.Pace.{pace_of}
use Rattle.mlp_fifo.specs.Schedule.{out_of}
use Rattle.mlp_fifo.specs.Placed.{BeginAt}
use Rattle.mlp_cut.specs.Cut.{first_sync}

-- ---- a unit, with an input timing and an output timing of 16 bits each

-- the text of a segment of a unit with a major sync, where what was in force before decides nothing
abbrev pub own_text : Place → Segment → List Bool
own_text place s = (segment place unknown None s.checked).spelling s

-- the bytes behind these first segments, of those of the unit: a fourth substream's, and extra data
abbrev pub behind_segments : AccessUnit → List Segment → List ℕ
behind_segments o ss = drop (2 * end_before o.entries (length ss)) o.body

-- the segments with this output timing in their restarts, and what stands behind them
unfoldable pub stamped_body : Place → ℕ → Unit_of → List ℕ
stamped_body place output u =
    bytes_of (flat_map (λ s. own_text place (stamped output s)) u.contents
    ++ bits_of (behind_segments u.outer u.contents))

-- only units with a major sync have restarts
abbrev pub retimed_body : Option MajorSync → ℕ → Unit_of → List ℕ
retimed_body sync output u =
    if is_some u.outer.major then stamped_body (place_by sync u.outer.major) output u else u.outer.body

-- the outer part, in a stream with this first major sync: lengths and checks are made anew
abbrev pub retimed : Option MajorSync → ℕ → ℕ → Unit_of → AccessUnit
retimed sync input output u =
    written_unit input u.outer.major u.outer.entries (retimed_body sync output u)

abbrev pub retimed_unit : Option MajorSync → ℕ → ℕ → Unit_of → Unit_of
retimed_unit sync input output u = record {
  outer = retimed sync input output u;
  contents = if is_some u.outer.major then map (stamped output) u.contents else u.contents;
}

-- ---- units

-- the length in bytes
abbrev pub length_of : Unit_of → ℕ
length_of u = 2 * u.outer.head.words

-- each from unit n on, with the low 16 bits of when it begins to arrive and of when it is output
abbrev pub retimed_from : Option MajorSync → Pace → ℕ → List ℕ → List Unit_of → List Unit_of
retimed_from sync p n times [] = []
retimed_from sync p n [] (u ∷ us) = []
retimed_from sync p n (t ∷ times) (u ∷ us) =
    retimed_unit sync (t % 65536) (out_of p n % 65536) u ∷ retimed_from sync p (suc n) times us

-- in a stream with this first major sync
abbrev pub pace_in : Option MajorSync → Pace
pace_in sync = pace_of (stream_kind sync) (stream_rate sync)

-- vs are the units us, with the times of the earliest schedule of their lengths
pub record IsRetimed (us vs : List Unit_of) : Type 0 where
  pub times : List ℕ
  pub begin : let sync = first_sync us in BeginAt (stream_kind sync) (stream_rate sync) (map length_of us) times
  pub units_are : let sync = first_sync us in vs ≡ retimed_from sync (pace_in sync) 0 times us
