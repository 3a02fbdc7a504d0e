-- What reading and playing the segments of a unit does.
use Rattle.std.specs.Prelude.{◌≡◌, ℕ, ◌-◌, ◌<◌, ◌≤◌, Bool, true, List, [], length, take, slice_index_or, Option, Some, None, is_some, ℤ, if◌then◌else◌}
use Rattle.std.specs.List.{list_any}
use Rattle.mlp_syntax.specs.declared.segment.Segment.{Segment}
use Rattle.mlp_params.specs.declared.state.State.{State}
use Rattle.mlp_matrix.specs.Noise.{seed_at}
use Rattle.mlp_substream.specs.declared.known.Place.{Place}
use Rattle.mlp_substream.specs.Blocks.{ForceFits}
use Rattle.mlp_channels.specs.Channels.{Coded, column}
use Rattle.mlp_output.specs.Output.{check_of}
use Rattle.mlp_contents.specs.Frames.{is_coded_by, channel, heard_in}
use Rattle.mlp_contents.specs.Units.{coded_at, coded_each, top_of, seed_of, placed_by}
use Rattle.mlp_contents.specs.Inner.{IsCovered}

-- what is in force in each of these substreams fits the place
abbrev pub ForcesAre : Place → List Coded → Type 0
ForcesAre place xs = (j : ℕ) → ForceFits place (coded_at xs j).force

-- the first n frames have each channel that one of these substreams codes
abbrev pub HaveChannels : Place → List Coded → List Segment → ℕ → List (List ℤ) → Type 0
HaveChannels place xs ss n frames =
    (c : ℕ) → is_coded_by place xs ss c ≡ true → take n (column c frames) ≡ channel place xs ss c

-- of these substreams the segments were read, the last of which is this one
pub record HasRead (place : Place) (old new : List Coded) (ss : List Segment)
    (top : Segment) (frames : List (List ℤ)) : Type 0 where
  pub count : length ss ≡ length old
  pub top_is : top ≡ top_of (length old - 1) ss
  pub coded : new ≡ coded_each place old ss
  pub forces : ForcesAre place new
  pub covered : IsCovered (coded_at new (length old - 1)).force new
  pub ended : list_any (λ s. is_some s.terminator) ss ≡ is_some top.terminator
  pub frames_have : HaveChannels place old ss (length top.codes.items) frames

-- each frame has ten places
abbrev pub AreWide : List (List ℤ) → Type 0
AreWide frames = (i : ℕ) → i < length frames → length (slice_index_or frames i []) ≡ 10

-- the first n frames have each channel up to the greatest matrix channel
abbrev pub HaveMatrixed : Option State → (ℕ → List ℤ) → ℕ → List (List ℤ) → Type 0
HaveMatrixed None channels n frames = Unit {0}
HaveMatrixed (Some s) channels n frames =
    (c : ℕ) → c ≤ s.restart.max_matrix → take n (column c frames) ≡ channels c

-- the noise seed and the check of an interval so far
pub record Running : Type 0 where
  pub seed : ℕ
  pub check : ℕ

-- these are the frames that a unit gives, of these channels, and what it leaves of the interval
pub record IsGiven (place : Place) (channels : ℕ → List ℤ)
    (top : Segment) (force : Option State) (old new : Running)
    (rows : List (List ℤ)) : Type 0 where
  pub rows_are : rows ≡ placed_by force (heard_in place channels old.seed top force)
  pub seed : new.seed ≡ seed_at (if place.major then seed_of force else old.seed) (length top.codes.items)
  pub check : new.check ≡ check_of (if place.major then 0 else old.check) (heard_in place channels old.seed top force)

-- the segments of these substreams were read and played
pub record HasTakenContents (place : Place) (ss : List Segment) (old new : List Coded) (ended : Bool)
    (before behind : Running) (rows : List (List ℤ)) : Type 0 where
  pub count : length ss ≡ length old
  pub coded : new ≡ coded_each place old ss
  pub forces : ForcesAre place new
  pub covered : IsCovered (coded_at new (length old - 1)).force new
  pub ended_is : ended ≡ list_any (λ s. is_some s.terminator) ss
  pub given : IsGiven place (channel place old ss) (top_of (length old - 1) ss)
      (coded_at new (length old - 1)).force before behind rows
