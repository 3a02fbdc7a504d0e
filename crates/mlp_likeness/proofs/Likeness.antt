-- What units leave, but for a first major sync that is alike: the next unit is the same behind it, and is heard the same.
use Rattle.std.proofs.Common.{◌≡◌, ℕ, ◌+◌, ◌*◌, ◌^◌, ◌%◌, cond, not, Bool, List, [], ◌∷◌, length, drop, Option, Some, refl, sym, ap, subst, subst₂, ◌∙◌}
use Rattle.std.specs.Prelude.{is_some}
use Rattle.mlp_syntax.specs.declared.fault.Field.TheVariants as rule
use Rattle.mlp_syntax.specs.declared.major.MajorSync.{MajorSync}
use Rattle.mlp_syntax.specs.declared.segment.Segment.{Segment}
use Rattle.mlp_layout.specs.Layout.{Layout, Found, tested}
use Rattle.mlp_layout.specs.Contents.{Contents, FoundIn, segments}
use Rattle.mlp_layout.specs.Streams.{IsNext, rest_of, Begins}
use Rattle.mlp_major.specs.MajorSync.{Alike, unit_frames}
use Rattle.mlp_unit.specs.AccessUnit.{AccessUnit, access_unit, in_force, stream_kind}
use Rattle.mlp_unit.proofs.FirstSyncs.{alike_units}
use Rattle.mlp_substream.specs.Blocks.{force_after}
use Rattle.mlp_output.specs.Output.{check_of, folded}
use Rattle.mlp_matrix.specs.Noise.{seed_at}
use Rattle.mlp_contents.specs.Frames.{channel, heard_in}
use Rattle.mlp_contents.specs.Units.{Left, Unit_of, coded_at, frames_in_unit, place_by, portion, coded_each, top_of, force_behind, heard_of, placed_by, frames_out, seed_of, after, whole}
use Rattle.mlp_likeness.specs.Cut.{frames_from}

pub record Like (l m : Left) : Type 0 where
  pub first : MajorSync
  pub other : MajorSync
  pub is_first : l.sync ≡ Some first
  pub is_other : m.sync ≡ Some other
  pub alike : Alike first other
  pub ended : l.ended ≡ m.ended
  pub substreams : l.substreams ≡ m.substreams
  pub seed : l.seed ≡ m.seed
  pub check : l.check ≡ m.check

-- a unit behind both
pub record LikeUnit (k : ℕ) (l m : Left) (all : List Bool) (u : Unit_of) : Type 0 where
  pub next : IsNext (whole k) m all u
  pub rest : rest_of (whole k) l all u ≡ rest_of (whole k) m all u
  pub frames : frames_out k l u ≡ frames_out k m u
  pub like : Like (after k l u) (after k m u)

frames_alike : (a b : MajorSync) → Alike a b → unit_frames a ≡ unit_frames b
frames_alike a b s = ap (λ (r : ℕ). 40 * 2 ^ (r % 8)) s.rate

-- units stand at the same place behind syncs that are alike
pub place_alike : (s t major : Option MajorSync) (a b : MajorSync) → in_force s major ≡ Some a → in_force t major ≡ Some b → Alike a b → place_by s major ≡ place_by t major
place_alike s t major a b p q same =
    let kind : stream_kind (in_force s major) ≡ stream_kind (in_force t major) = ap stream_kind p ∙ same.kind ∙ sym (ap stream_kind q) in
    let frames : frames_in_unit (in_force s major) ≡ frames_in_unit (in_force t major) = ap frames_in_unit p ∙ frames_alike a b same ∙ sym (ap frames_in_unit q) in
    λ i. record { format = kind i; unit_frames = frames i; major = is_some major }

module _ (k : ℕ) (l m : Left) (like : Like l m) (all : List Bool) (u : Unit_of) where
  units_same : access_unit l.sync ≡ access_unit m.sync
  units_same = ap access_unit like.is_first ∙ alike_units like.first like.other like.alike ∙ sym (ap access_unit like.is_other)

  outer_same : (whole k).outer l ≡ (whole k).outer m
  outer_same = λ i. tested rule.AfterEnd (not (like.ended i)) (units_same i)

  place_same : place_by l.sync u.outer.major ≡ place_by m.sync u.outer.major
  place_same = place_alike l.sync m.sync u.outer.major like.first like.other (ap (λ (s : Option MajorSync). in_force s u.outer.major) like.is_first) (ap (λ (s : Option MajorSync). in_force s u.outer.major) like.is_other) like.alike

  contents_same : (whole k).contents l u.outer ≡ (whole k).contents m u.outer
  contents_same = λ i. segments (portion k (place_same i) (like.substreams i) (folded (like.check i)) u.outer) (k + 1) []

  force_same : force_behind k l u ≡ force_behind k m u
  force_same = λ i. force_after (place_same i) (coded_at (like.substreams i) k).force (top_of k u.contents).blocks.items

  heard_same : heard_of k l u ≡ heard_of k m u
  unfolding heard_of
  heard_same = λ i. heard_in (place_same i) (channel (place_same i) (like.substreams i) u.contents) (like.seed i) (top_of k u.contents) (force_same i)

  like_behind : Like (after k l u) (after k m u)
  unfolding after
  like_behind = record {
    first = like.first;
    other = like.other;
    is_first = ap (λ (s : Option MajorSync). in_force s u.outer.major) like.is_first;
    is_other = ap (λ (s : Option MajorSync). in_force s u.outer.major) like.is_other;
    alike = like.alike;
    ended = refl;
    substreams = λ i. coded_each (place_same i) (like.substreams i) u.contents;
    seed = λ i. seed_at (cond (is_some u.outer.major) (seed_of (force_same i)) (like.seed i)) (length (top_of k u.contents).codes.items);
    check = λ i. check_of (cond (is_some u.outer.major) 0 (like.check i)) (heard_same i);
  }

  pub like_unit : IsNext (whole k) l all u → LikeUnit k l m all u
  like_unit next = record {
    next = record {
      outer = subst (λ (o : Layout AccessUnit). Found o all 0 u.outer) outer_same next.outer;
      contents = subst₂ (λ (c : Contents (List Segment)) (t : List Bool). FoundIn c t u.contents) contents_same (ap (λ (o : Layout AccessUnit). o.spelling u.outer) outer_same) next.contents;
    };
    rest = ap (λ (o : Layout AccessUnit). drop (length (o.spelling u.outer)) all) outer_same;
    frames = λ i. placed_by (force_same i) (heard_same i);
    like = like_behind;
  }

-- several units behind both
pub record LikeUnits (k : ℕ) (l m : Left) (all : List Bool) (us : List Unit_of) (rest : List Bool) : Type 0 where
  pub begins : Begins (whole k) m all us rest
  pub frames : frames_from k l us ≡ frames_from k m us

pub like_units : (k : ℕ) (l m : Left) (all : List Bool) (us : List Unit_of) (rest : List Bool) → Like l m → Begins (whole k) l all us rest → LikeUnits k l m all us rest
unfolding Begins
like_units k l m all [] rest like b = record { begins = b; frames = refl }
like_units k l m all (u ∷ us) rest like b =
    let one = like_unit k l m like all u b.0 in
    let later = like_units k (after k l u) (after k m u) (rest_of (whole k) l all u) us rest one.like b.1 in
    record {
      begins = (one.next, subst (λ (t : List Bool). Begins (whole k) (after k m u) t us rest) one.rest later.begins);
      frames = λ i. one.frames i ∷ later.frames i;
    }
