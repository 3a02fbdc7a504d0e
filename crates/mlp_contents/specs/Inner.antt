-- What units leave but for the stream's first major sync, and taking what a unit contains.
use Rattle.std.specs.Prelude.{◌≡◌, ℕ, ◌+◌, ◌≤◌, Bool, true, false, List, length, replicate, Result, Ok, Err, Option, Some, None, IfSome, ℤ}
use Rattle.std.specs.List.{list_any}
use Rattle.mlp_syntax.specs.declared.major.MajorSync.{MajorSync}
use Rattle.mlp_syntax.specs.declared.segment.Segment.{Segment}
use Rattle.mlp_params.specs.declared.state.State.{State}
use Rattle.mlp_layout.specs.Contents.{UnitFault}
use Rattle.mlp_unit.specs.AccessUnit.{AccessUnit, in_force, stream_kind}
use Rattle.mlp_substream.specs.Blocks.{FitsPlace}
use Rattle.mlp_channels.specs.Channels.{Coded, nothing_coded, codes_channel}
use Rattle.mlp_contents.specs.declared.fault.SegmentFault.{SegmentFault}
use Rattle.mlp_contents.specs.Units.{Left, Unit_of, coded_at, frames_in_unit, whole, after, frames_out}

-- the last substream that is read, and what units leave but for the first major sync
pub record Inner : Type 0 where
  pub last : ℕ
  pub ended : Bool
  pub substreams : List Coded
  pub seed : ℕ
  pub check : ℕ

-- before the first unit
abbrev pub nothing_inside : ℕ → Inner
nothing_inside k = record { last = k; ended = false; substreams = replicate (k + 1) nothing_coded; seed = 0; check = 0 }

-- .. with the first major sync
abbrev pub left_of : Option MajorSync → Inner → Left
left_of sync x = record { sync = sync; ended = x.ended; substreams = x.substreams; seed = x.seed; check = x.check }

-- what is in force behind the last substream that is read
abbrev pub force_of : Inner → Option State
force_of x = (coded_at x.substreams x.last).force

-- the number of channels of a presentation by what is in force in its last substream
abbrev pub channels_of : Option State → ℕ
channels_of None = 0
channels_of (Some s) = s.restart.max_matrix + 1

-- ---- what holds between units

-- in a stream with this first major sync: what is in force fits it, and before it nothing is
abbrev pub ForcesFit : Option MajorSync → List Coded → Type 0
ForcesFit None xs = (j : ℕ) → (coded_at xs j).force ≡ None
ForcesFit (Some m) xs = (j : ℕ)
    → IfSome (coded_at xs j).force (FitsPlace (stream_kind (Some m)) (frames_in_unit (Some m)))

-- is channel c coded by one of these substreams?
abbrev pub is_coded_in : List Coded → ℕ → Bool
is_coded_in xs c = list_any (λ x. codes_channel x.force c) xs

-- each channel up to the greatest matrix channel of what is in force is coded by one of these substreams
abbrev pub IsCovered : Option State → List Coded → Type 0
IsCovered None xs = Unit {0}
IsCovered (Some s) xs = (c : ℕ) → c ≤ s.restart.max_matrix → is_coded_in xs c ≡ true

pub record IsKept (sync : Option MajorSync) (x : Inner) : Type 0 where
  pub count : length x.substreams ≡ x.last + 1
  pub forces : ForcesFit sync x.substreams
  pub covered : IsCovered (force_of x) x.substreams

-- in some stream
abbrev pub IsBetween : Inner → Type 0
IsBetween x = (sync : Option MajorSync) × IsKept sync x

-- ---- a unit

abbrev pub unit_fault : SegmentFault → UnitFault
unit_fault e = record { substream = e.substream; field = e.field; bit = e.bit }

abbrev pub unit_with_contents : AccessUnit → List Segment → Unit_of
unit_with_contents o ss = record { outer = o; contents = ss }

-- of the unit with this outer part, whose bits these are, the segments were read: what it leaves,
-- and the frames that it gives
pub record IsTaken (sync : Option MajorSync) (o : AccessUnit)
    (text : List Bool) (old new : Inner) (rows : List (List ℤ)) : Type 0 where
  pub contents : List Segment
  pub read : ((whole old.last).contents (left_of sync old) o).read text ≡ Ok contents
  pub left : left_of (in_force sync o.major) new ≡ after old.last (left_of sync old) (unit_with_contents o contents)
  pub rows_are : rows ≡ frames_out old.last (left_of sync old) (unit_with_contents o contents)

-- .. or the first rule that fails in them
abbrev pub IsTakenOr : Option MajorSync → AccessUnit → List Bool → Inner
    → Inner → List (List ℤ) → Result (Unit {0}) SegmentFault → Type 0
IsTakenOr sync o text old new rows (Ok done) = IsTaken sync o text old new rows
IsTakenOr sync o text old new rows (Err e) =
    ((whole old.last).contents (left_of sync old) o).read text ≡ Err (unit_fault e)
