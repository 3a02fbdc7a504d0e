-- Whole units for presentation k: the outer part, and the segments of the substreams 0 to k.
use Rattle.std.specs.Prelude.{ℕ, ◌+◌, ◌-◌, ◌*◌, not, Bool, false, List, [], ◌∷◌, length, replicate, slice_index_or, Option, Some, None, is_some, if◌then◌else◌, min, ℤ}
use Rattle.std.specs.List.{list_any}
use Rattle.mlp_syntax.specs.declared.fault.Field.TheVariants as rule
use Rattle.mlp_syntax.specs.declared.major.MajorSync.{MajorSync}
use Rattle.mlp_syntax.specs.declared.unit.DirEntry.{DirEntry}
use Rattle.mlp_syntax.specs.declared.segment.Segment.{Segment}
use Rattle.mlp_params.specs.declared.state.State.{State}
use Rattle.mlp_layout.specs.Layout.{tested}
use Rattle.mlp_layout.specs.Contents.{Portion, segments}
use Rattle.mlp_layout.specs.Streams.{Format, UnitOf}
use Rattle.mlp_major.specs.MajorSync.{unit_frames}
use Rattle.mlp_unit.specs.AccessUnit.{AccessUnit, access_unit, in_force, substreams_of, stream_kind}
use Rattle.mlp_unit.specs.Shape.{body_place, end_at, end_before}
use Rattle.mlp_substream.specs.declared.known.Place.{Place}
use Rattle.mlp_substream.specs.Blocks.{force_after}
use Rattle.mlp_substream.specs.Segment.{segment}
use Rattle.mlp_channels.specs.Channels.{Coded, coded_after, nothing_coded}
use Rattle.mlp_output.specs.Output.{check_of, folded, placed_each}
use Rattle.mlp_matrix.specs.Noise.{seed_at}
use Rattle.mlp_contents.specs.Known.{known}
use Rattle.mlp_contents.specs.Frames.{channel, heard_in}

-- what units leave: the first major sync, whether one had a terminator, of each substream what is in force and the past
-- of its channels, and of the interval so far the noise seed and the check
pub record Left : Type 0 where
  pub sync : Option MajorSync
  pub ended : Bool
  pub substreams : List Coded
  pub seed : ℕ
  pub check : ℕ

abbrev pub start : ℕ → Left
start k = record { sync = None; ended = false; substreams = replicate (k + 1) nothing_coded; seed = 0; check = 0 }

abbrev pub Unit_of : Type 0
Unit_of = UnitOf AccessUnit (List Segment)

abbrev pub coded_at : List Coded → ℕ → Coded
coded_at xs j = slice_index_or xs j nothing_coded

-- a stream without a major sync yet has no unit to ask for: the least number of frames stands for none
abbrev pub frames_in_unit : Option MajorSync → ℕ
frames_in_unit None = 40
frames_in_unit (Some m) = unit_frames m

-- the place of a unit's segments, behind the first major sync or where there is none yet, by the unit's own
abbrev pub place_by : Option MajorSync → Option MajorSync → Place
place_by first major = record {
  format = stream_kind (in_force first major);
  unit_frames = frames_in_unit (in_force first major);
  major = is_some major;
}

abbrev pub place_of : Left → AccessUnit → Place
place_of left o = place_by left.sync o.major

abbrev pub is_checked : List DirEntry → ℕ → Bool
is_checked es j = (slice_index_or es j
    (record { extra = None; restart_absent = false; checked = false; reserved = false; end = 0 })).checked

-- the segment behind these, of the substream whose number is that of the segments before
unfoldable pub portion : ℕ → Place → List Coded → ℕ → AccessUnit → List Segment → Portion Segment
portion last place xs check o before = record {
  first = 8 * (body_place o + 2 * end_before o.entries (length before));
  size = 16 * (end_at o.entries (length before) - end_before o.entries (length before));
  text = segment place (known last (coded_at xs (length before)).force check before)
      (coded_at xs (length before)).force (is_checked o.entries (length before));
}

-- each substream behind its segment
abbrev pub coded_each : Place → List Coded → List Segment → List Coded
coded_each place [] ss = []
coded_each place (x ∷ xs) [] = x ∷ xs
coded_each place (x ∷ xs) (s ∷ ss) = coded_after place x s ∷ coded_each place xs ss

abbrev pub no_segment : Segment
no_segment = record {
  blocks = record { items = [] };
  codes = record { items = [] };
  padding = 0;
  terminator = None;
  checked = false;
}

-- the segment of the greatest substream that is read
abbrev pub top_of : ℕ → List Segment → Segment
top_of k ss = slice_index_or ss k no_segment

abbrev pub force_behind : ℕ → Left → Unit_of → Option State
force_behind k left u =
    force_after (place_of left u.outer) (coded_at left.substreams k).force (top_of k u.contents).blocks.items

-- the samples of the matrix channels in each frame of a unit
unfoldable pub heard_of : ℕ → Left → Unit_of → List (List ℤ)
heard_of k left u =
    let place = place_of left u.outer in
    heard_in place (channel place left.substreams u.contents) left.seed (top_of k u.contents) (force_behind k left u)

abbrev pub placed_by : Option State → List (List ℤ) → List (List ℤ)
placed_by None heard = []
placed_by (Some s) heard = placed_each s heard

-- .. and the frames that the unit gives
abbrev pub frames_out : ℕ → Left → Unit_of → List (List ℤ)
frames_out k left u = placed_by (force_behind k left u) (heard_of k left u)

abbrev pub seed_of : Option State → ℕ
seed_of None = 0
seed_of (Some s) = s.restart.seed

unfoldable pub after : ℕ → Left → Unit_of → Left
after k left u = record {
  sync = in_force left.sync u.outer.major;
  ended = list_any (λ s. is_some s.terminator) u.contents;
  substreams = coded_each (place_of left u.outer) left.substreams u.contents;
  seed = seed_at (if is_some u.outer.major then seed_of (force_behind k left u) else left.seed)
      (length (top_of k u.contents).codes.items);
  check = check_of (if is_some u.outer.major then 0 else left.check) (heard_of k left u);
}

abbrev pub whole : ℕ → Format Left AccessUnit (List Segment)
whole k = record {
  outer = λ left. tested rule.AfterEnd (not left.ended) (access_unit left.sync);
  contents = λ left o. segments (portion k (place_of left o) left.substreams (folded left.check) o) (k + 1) [];
  after = after k;
  presentations = λ o. min 3 (substreams_of o.major);
}
