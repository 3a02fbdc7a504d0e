-- Units from the first on.
use Rattle.std.proofs.Common.{◌≡◌, ◌≢◌, ℕ, zero, suc, ◌+◌, ◌<◌, ◌≤◌, Bool, true, false, List, [], ◌∷◌, ◌++◌, length, get_or, replicate, Option, Some, None, ℤ, refl, sym, ap, subst, ◌∙◌, arith}
use Rattle.std.specs.Prelude.{IsTrue, is_some, not, ◌||◌}
use Rattle.std.specs.List.{list_any}
use Rattle.std.proofs.lemmas.List.Elements.{All-nil}
use Rattle.std.proofs.lemmas.List.{length-replicate}
use Rattle.mlp_syntax.specs.declared.major.MajorSync.{MajorSync}
use Rattle.mlp_syntax.specs.declared.restart.Restart.{Restart}
use Rattle.mlp_syntax.specs.declared.segment.BlockHead.{BlockHead}
use Rattle.mlp_predict.specs.Prediction.{zeros}
use Rattle.mlp_predict.specs.Outputs.{IsWithin}
use Rattle.mlp_predict.proofs.FrameLists.{frames_leave}
use Rattle.mlp_layout.specs.Layout.{Found, tested}
use Rattle.mlp_layout.specs.Streams.{IsNext, Begins, left_after, rest_of, spelling_of}
use Rattle.mlp_unit.specs.AccessUnit.{access_unit, in_force, stream_kind}
use Rattle.mlp_unit.specs.Written.{FirstUsable}
use Rattle.mlp_substream.specs.declared.known.Place.{Place}
use Rattle.mlp_substream.specs.Blocks.{ForceFits}
use Rattle.mlp_substream.specs.Playable.{ArePlayable}
use Rattle.mlp_channels.specs.Channels.{Coded, channel_frames, nothing_coded}
use Rattle.mlp_contents.specs.Known.{first_restart}
use Rattle.mlp_contents.specs.Units.{Left, Unit_of, start, coded_at, frames_in_unit, top_of, frames_out, after, whole}
use Rattle.mlp_samples.specs.Samples.{frames_by_steps, blocks_in, frames_in_units, before_unit, samples_behind, place_in, samples, unit_samples}
use Rattle.mlp_samples.specs.Leaving.{since_sync, has_end, latest_of, matrix_of, matrix_in_force, IsLeft}
use Rattle.mlp_samples.proofs.BlockRuns.{CanPlay}
use Rattle.mlp_samples.proofs.SyncLaws.{unit_usable, unit_synced, unit_place}
use Rattle.mlp_samples.proofs.UnitParts.{unit_segments}
use Rattle.mlp_samples.proofs.UnitLaws.{Interval}
use Rattle.mlp_samples.proofs.Leavings.{Follows, gives, leaves, matrix_kept, matrix_first, some_first, blocks_there}

-- ---- before the first unit

all_same : {A : Type 0} (n j : ℕ) (x : A) → get_or (replicate n x) j x ≡ x
all_same zero j x = refl
all_same (suc n) zero x = refl
all_same (suc n) (suc j) x = all_same n j x

module _ (place : Place) (k : ℕ) where
  nothing_at : (j : ℕ) → coded_at (start k).substreams j ≡ nothing_coded
  nothing_at j = all_same (k + 1) j nothing_coded

  no_frames : (j c : ℕ) → frames_in_units place j [] c ≡ []
  unfolding channel_frames
  no_frames j c = refl

  no_past : (j c : ℕ) → zeros 8 4 ≡ latest_of (frames_in_units place j [] c)
  no_past j c = frames_leave 8 4 [] (All-nil (IsWithin 8 4)) ∙ ap latest_of (sym (no_frames j c))

  can_play : CanPlay place None [] []
  unfolding ArePlayable
  can_play = (false, refl)

  pub at_start : Interval place k [] (start k)
  at_start = record {
    is = record {
      force = λ j le. ap (λ (x : Coded). x.force) (nothing_at j);
      pasts = λ j c le few. ap (λ (x : Coded). get_or x.pasts c (zeros 8 4)) (nothing_at j) ∙ all_same 8 c (zeros 8 4) ∙ no_past j c;
      seed = refl;
      check = refl;
    };
    count = length-replicate (k + 1) nothing_coded;
    lawful = λ j le. subst (λ (x : Coded). ForceFits place x.force) (sym (nothing_at j)) tt;
    played = λ j le. can_play;
    frames = λ j le. refl;
  }

-- ---- a unit behind others

record Along (k : ℕ) (sync : Option MajorSync) (since : List Unit_of) (left : Left) : Type 0 where
  same : left.sync ≡ sync
  some : is_some sync ≡ true
  usable : FirstUsable sync
  interval : Interval (place_in sync) k since left

pub in_force_some : (sync here : Option MajorSync) → is_some sync ≡ true → in_force sync here ≡ sync
in_force_some None here e = absurd cc
in_force_some (Some m) here e = refl

module _ (k : ℕ) (left : Left) (all : List Bool) (u : Unit_of) (next : IsNext (whole k) left all u) where
  found : Found (access_unit left.sync) all 0 u.outer
  unfolding tested
  found = record { fits = next.outer.fits; meets = next.outer.meets.1; stands = next.outer.stands }

  not_ended : IsTrue (not left.ended)
  unfolding tested
  not_ended = next.outer.meets.0

  -- by the first major sync, which may be this unit's
  module _ (sync : Option MajorSync) (since : List Unit_of) (e : in_force left.sync u.outer.major ≡ sync) (usable : FirstUsable left.sync) (h : Interval (place_in sync) k since left) where
    usable_now : FirstUsable (in_force left.sync u.outer.major)
    usable_now = unit_usable left.sync all u.outer usable found

    follows : Follows (place_in sync) k left u since
    follows = record {
      same = record { format = ap stream_kind e; frames = ap frames_in_unit e };
      ok = unit_place sync (subst FirstUsable e usable_now);
      segments = unit_segments k left u (spelling_of (whole k) left u) next.contents;
      interval = h;
    }

    unit_frames : frames_out k left u ≡ unit_samples (place_in sync) k (before_unit since u) u
    unit_frames = gives (place_in sync) k left u since follows

    matrices_kept : (j : ℕ) → j ≤ k → is_some (matrix_in_force (coded_at left.substreams j).force) ≡ true
        → matrix_in_force (coded_at (after k left u).substreams j).force ≡ matrix_in_force (coded_at left.substreams j).force
    matrices_kept = matrix_kept (place_in sync) k left u since follows

    matrices_first : is_some u.outer.major ≡ true → (j : ℕ) → j ≤ k
        → matrix_in_force (coded_at (after k left u).substreams j).force ≡ matrix_of (first_restart (top_of j u.contents).blocks.items)
    matrices_first = matrix_first (place_in sync) k left u since follows

    matrices_some : is_some u.outer.major ≡ true → (j : ℕ) → j ≤ k → is_some (matrix_of (first_restart (top_of j u.contents).blocks.items)) ≡ true
    matrices_some = some_first (place_in sync) k left u since follows

    has_blocks : (j : ℕ) → j ≤ k → 0 < length (top_of j u.contents).blocks.items
    has_blocks = blocks_there (place_in sync) k left u since follows

    along_after : Along k sync (before_unit since u ++ u ∷ []) (after k left u)
    unfolding after
    along_after = record {
      same = e;
      some = ap is_some (sym e) ∙ unit_synced left.sync all u.outer usable found;
      usable = subst FirstUsable e usable_now;
      interval = leaves (place_in sync) k left u since follows;
    }

-- ---- units behind others

record Ran (k : ℕ) (sync : Option MajorSync) (since us : List Unit_of) (left : Left) : Type 0 where
  frames : frames_by_steps k left us ≡ samples_behind (place_in sync) k since us
  along : Along k sync (since_sync since us) (left_after (whole k) left us)
  ended : (left_after (whole k) left us).ended ≡ (left.ended || list_any has_end us)
  matrices : (j : ℕ) → j ≤ k → matrix_in_force (coded_at (left_after (whole k) left us).substreams j).force ≡ matrix_in_force (coded_at left.substreams j).force

or_none : (b : Bool) → b ≡ (b || false)
or_none true = refl
or_none false = refl

or_behind : (a b : Bool) → IsTrue (not a) → b ≡ (a || b)
or_behind true b h = absurd cc
or_behind false b h = refl

module _ (k : ℕ) (sync : Option MajorSync) where
  ended_more : (left : Left) (u : Unit_of) (us : List Unit_of) (last : Left) → IsTrue (not left.ended) → last.ended ≡ ((after k left u).ended || list_any has_end us)
      → last.ended ≡ (left.ended || (has_end u || list_any has_end us))
  unfolding after
  ended_more left u us last going e = e ∙ or_behind left.ended (has_end u || list_any has_end us) going

  -- something is in force in each substream
  abbrev HasMatrices : Left → Type 0
  HasMatrices left = (j : ℕ) → j ≤ k → is_some (matrix_in_force (coded_at left.substreams j).force) ≡ true

  runs : (us since : List Unit_of) (left : Left) (all rest : List Bool) → HasMatrices left → Along k sync since left → Begins (whole k) left all us rest → Ran k sync since us left
  unfolding Begins
  runs [] since left all rest m a b = record { frames = refl; along = a; ended = or_none left.ended; matrices = λ j le. refl }
  runs (u ∷ us) since left all rest m a b =
      let same = ap (λ (s : Option MajorSync). in_force s u.outer.major) a.same ∙ in_force_some sync u.outer.major a.some in
      let usable = subst FirstUsable (sym a.same) a.usable in
      let stays = λ (j : ℕ) (le : j ≤ k). matrices_kept k left all u b.0 sync since same usable a.interval j le (m j le) in
      let more = runs us (before_unit since u ++ u ∷ []) (after k left u) (rest_of (whole k) left all u) rest (λ j le. ap is_some (stays j le) ∙ m j le) (along_after k left all u b.0 sync since same usable a.interval) b.1 in
      record {
        frames = ap (λ (xs : List (List ℤ)). xs ++ frames_by_steps k (after k left u) us) (unit_frames k left all u b.0 sync since same usable a.interval)
            ∙ ap (λ (xs : List (List ℤ)). unit_samples (place_in sync) k (before_unit since u) u ++ xs) more.frames;
        along = more.along;
        ended = ended_more left u us (left_after (whole k) (after k left u) us) (not_ended k left all u b.0) more.ended;
        matrices = λ j le. more.matrices j le ∙ stays j le;
      }

-- ---- all units

record RanFirst (k : ℕ) (u : Unit_of) (us : List Unit_of) : Type 0 where
  frames : frames_by_steps k (start k) (u ∷ us) ≡ samples k (u ∷ us)
  along : Along k u.outer.major (since_sync [] (u ∷ us)) (left_after (whole k) (start k) (u ∷ us))
  ended : (left_after (whole k) (start k) (u ∷ us)).ended ≡ list_any has_end (u ∷ us)
  matrices : (j : ℕ) → j ≤ k → matrix_in_force (coded_at (left_after (whole k) (start k) (u ∷ us)).substreams j).force ≡ matrix_of (first_restart (blocks_in j (u ∷ us)))

first_of : (hs gs : List BlockHead) → 0 < length hs → first_restart hs ≡ first_restart (hs ++ gs)
first_of [] gs some = absurd (omega arith)
first_of (h ∷ hs) gs some = refl

ran_first : (k : ℕ) (u : Unit_of) (us : List Unit_of) (all rest : List Bool) → Begins (whole k) (start k) all (u ∷ us) rest → RanFirst k u us
unfolding Begins
ran_first k u us all rest b =
    let sync = u.outer.major in
    let begun = at_start (place_in sync) k in
    let along = along_after k (start k) all u b.0 sync [] refl tt begun in
    let begins = matrices_first k (start k) all u b.0 sync [] refl tt begun along.some in
    let some = λ (j : ℕ) (le : j ≤ k). ap is_some (begins j le) ∙ matrices_some k (start k) all u b.0 sync [] refl tt begun along.some j le in
    let more = runs k sync us (before_unit [] u ++ u ∷ []) (after k (start k) u) (rest_of (whole k) (start k) all u) rest some along b.1 in
    record {
      frames = ap (λ (xs : List (List ℤ)). xs ++ frames_by_steps k (after k (start k) u) us) (unit_frames k (start k) all u b.0 sync [] refl tt begun)
          ∙ ap (λ (xs : List (List ℤ)). unit_samples (place_in sync) k (before_unit [] u) u ++ xs) more.frames;
      along = more.along;
      ended = ended_more k sync (start k) u us (left_after (whole k) (after k (start k) u) us) refl more.ended;
      matrices = λ j le. more.matrices j le ∙ begins j le
          ∙ ap matrix_of (first_of (top_of j u.contents).blocks.items (blocks_in j us) (has_blocks k (start k) all u b.0 sync [] refl tt begun j le));
    }

-- a unit with a major sync behind others: something is in force before it, and each of its segments begins with a restart
pub restart_there : (k : ℕ) (all rest : List Bool) (us : List Unit_of) (u : Unit_of) → Begins (whole k) (start k) all us rest → us ≢ [] → IsNext (whole k) (left_after (whole k) (start k) us) rest u → is_some u.outer.major ≡ true
    → (is_some (matrix_in_force (coded_at (left_after (whole k) (start k) us).substreams k).force) ≡ true) × (is_some (matrix_of (first_restart (top_of k u.contents).blocks.items)) ≡ true)
unfolding Begins
restart_there k all rest [] u b some next major = absurd (some refl)
restart_there k all rest (v ∷ vs) u b some next major =
    let sync = v.outer.major in
    let left = left_after (whole k) (start k) (v ∷ vs) in
    let begun = at_start (place_in sync) k in
    let first = along_after k (start k) all v b.0 sync [] refl tt begun in
    let there = matrices_some k (start k) all v b.0 sync [] refl tt begun first.some k (omega arith) in
    let blocks = first_of (top_of k v.contents).blocks.items (blocks_in k vs) (has_blocks k (start k) all v b.0 sync [] refl tt begun k (omega arith)) in
    let ran = ran_first k v vs all rest b in
    let along = ran.along in
    let same : in_force left.sync u.outer.major ≡ sync = ap (λ (s : Option MajorSync). in_force s u.outer.major) along.same ∙ in_force_some sync u.outer.major along.some in
    let usable = subst FirstUsable (sym along.same) along.usable in (
      ap is_some (ran.matrices k (omega arith)) ∙ ap (λ (o : Option Restart). is_some (matrix_of o)) (sym blocks) ∙ there,
      matrices_some k left rest u next sync (since_sync [] (v ∷ vs)) same usable along.interval major k (omega arith),
    )

pub samples_are : (k : ℕ) (all rest : List Bool) (us : List Unit_of) → Begins (whole k) (start k) all us rest → frames_by_steps k (start k) us ≡ samples k us
samples_are k all rest [] b = refl
samples_are k all rest (u ∷ us) b = (ran_first k u us all rest b).frames

pub left_is : (k : ℕ) (all rest : List Bool) (us : List Unit_of) → Begins (whole k) (start k) all us rest → IsLeft k us (left_after (whole k) (start k) us)
left_is k all rest [] b = record {
  sync = refl;
  ended = refl;
  max_matrix = λ j le. ap (λ (x : Coded). matrix_in_force x.force) (nothing_at (place_in None) k j);
  since = (at_start (place_in None) k).is;
}
left_is k all rest (u ∷ us) b =
    let r = ran_first k u us all rest b in
    record { sync = r.along.same; ended = r.ended; max_matrix = r.matrices; since = r.along.interval.is }
