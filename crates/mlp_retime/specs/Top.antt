-- Whole units for the highest presentation that a stream's first unit tells.
use Rattle.std.specs.Prelude.{ℕ, ◌-◌, min, List, Option, is_none, if◌then◌else◌}
use Rattle.mlp_syntax.specs.declared.major.MajorSync.{MajorSync}
use Rattle.mlp_syntax.specs.declared.segment.Segment.{Segment}
use Rattle.mlp_layout.specs.Streams.{Format}
use Rattle.mlp_unit.specs.AccessUnit.{AccessUnit, in_force, substreams_of}
use Rattle.mlp_contents.specs.Units.{Left, start, whole, after}

-- the highest presentation by the stream's first major sync: a fourth substream has none of its own
abbrev pub highest : Option MajorSync → ℕ
highest sync = min 3 (substreams_of sync) - 1

-- .. which may be this unit's
abbrev pub highest_behind : Left → AccessUnit → ℕ
highest_behind left o = highest (in_force left.sync o.major)

-- before the first unit the presentation isn't known
abbrev pub begun : ℕ → Left → Left
begun k left = if is_none left.sync then start k else left

-- units as presentation k reads them, where k is that of the first
abbrev pub top : Format Left AccessUnit (List Segment)
top = record {
  outer = (whole 0).outer;
  contents = λ left o. let k = highest_behind left o in (whole k).contents (begun k left) o;
  after = λ left u. let k = highest_behind left u.outer in after k (begun k left) u;
  presentations = λ o. 1;
}
