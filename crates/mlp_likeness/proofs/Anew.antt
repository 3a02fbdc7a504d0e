-- A unit with a major sync could be a stream's first one: the same stands there, and is heard the same.
use Rattle.std.proofs.Common.{◌≡◌, ℕ, zero, suc, ◌+◌, ◌==◌, cond, Bool, true, false, List, [], ◌∷◌, ◌++◌, length, drop, Option, Some, None, refl, sym, ap, subst, subst₂, ◌∙◌, arith}
use Rattle.std.specs.Prelude.{is_some, IsTrue, IfSome, replicate, slice_index_or, ℤ}
use Rattle.mlp_syntax.specs.declared.fault.Field.{Field}
use Rattle.mlp_syntax.specs.declared.fault.Field.TheVariants as rule
use Rattle.mlp_syntax.specs.declared.major.MajorSync.{MajorSync}
use Rattle.mlp_syntax.specs.declared.restart.Restart.{Restart}
use Rattle.mlp_syntax.specs.declared.segment.Segment.{Segment}
use Rattle.mlp_params.specs.declared.state.State.{State}
use Rattle.mlp_layout.specs.Layout.{Found, tested}
use Rattle.mlp_layout.specs.Combined.{fault_or}
use Rattle.mlp_layout.specs.Contents.{Contents, FoundIn, segments, segment_first, no_segments}
use Rattle.mlp_layout.specs.Streams.{IsNext, rest_of, spelling_of}
use Rattle.mlp_major.specs.MajorSync.{Alike}
use Rattle.mlp_unit.specs.AccessUnit.{AccessUnit, access_unit, in_force}
use Rattle.mlp_unit.specs.Laws.{CouldBeFirst}
use Rattle.mlp_unit.proofs.FirstSyncs.{could_be_first}
use Rattle.mlp_unit.proofs.UnitRules.{fits_text}
use Rattle.mlp_substream.specs.declared.known.Place.{Place}
use Rattle.mlp_substream.specs.declared.known.Known.{Known}
use Rattle.mlp_substream.specs.declared.known.Ending.{Ending}
use Rattle.mlp_substream.specs.Restarts.{covers, agrees, RestartHolds}
use Rattle.mlp_substream.specs.Blocks.{force_after}
use Rattle.mlp_substream.specs.Segment.{segment, unknown, IsAllowed, IsAsKnown}
use Rattle.mlp_substream.proofs.KnownLaws.{known_text, known_allowed}
use Rattle.mlp_substream.proofs.FreshLaws.{fresh_allowed, fresh_text}
use Rattle.mlp_channels.specs.Channels.{Coded, nothing_coded}
use Rattle.mlp_output.specs.Output.{check_of, folded}
use Rattle.mlp_matrix.specs.Noise.{seed_at}
use Rattle.mlp_contents.specs.Known.{known_by, covered_by, ending_of}
use Rattle.mlp_contents.specs.Frames.{channel, heard_in}
use Rattle.mlp_contents.specs.Units.{Left, Unit_of, start, coded_at, place_by, is_checked, portion, coded_each, no_segment, top_of, force_behind, heard_of, placed_by, frames_out, seed_of, after, whole}
use Rattle.mlp_likeness.proofs.Restarting.{Restarts, AllRestart, restarts_first, restarts_at, force_same, channels_same, each_same}
use Rattle.mlp_likeness.proofs.Likeness.{Like, place_alike}

-- ---- less is known

-- the three rules on a restart, by whether they hold
abbrev tests : Bool → Bool → Bool → Option (Field × ℕ)
tests a b c = fault_or rule.ChannelsChanged (cond a None (Some 38)) (fault_or rule.Uncovered (cond b None (Some 38)) (fault_or rule.LosslessCheck (cond c None (Some 89)) None))

second_holds : (a b c : Bool) → tests a b c ≡ None → tests true b true ≡ None
second_holds true true c e = refl
second_holds true false c e = absurd cc
second_holds false b c e = absurd cc

none_due : (b : Bool) (r : Restart) → agrees (cond b None None) r.lossless ≡ true
none_due true r = refl
none_due false r = refl

module _ (is_last : Bool) (f : Option State) (old new covered : ℕ) (first : Option Ending) where
  abbrev old_known : Known
  old_known = known_by is_last f old covered first

  abbrev new_known : Known
  new_known = known_by is_last None new covered first

  holds : (r : Restart) → RestartHolds old_known r → RestartHolds new_known r
  holds r h =
      let c = covers old_known.covered r in
      let one : tests true c true ≡ None = second_holds (agrees old_known.max_matrix r.max_matrix) c (agrees old_known.lossless r.lossless) h in
      subst (λ (b : Bool). tests true c b ≡ None) (sym (none_due is_last r)) one

  holds_if : (o : Option Restart) → IfSome o (λ r. RestartHolds old_known r) → IfSome o (λ r. RestartHolds new_known r)
  holds_if None h = tt
  holds_if (Some r) h = holds r h

  module _ (place : Place) (checked : Bool) (s : Segment) (major : IsTrue place.major) (a : IsAllowed (segment place old_known f checked) s) where
    as_known : IsAllowed (segment place unknown f checked) s × IsAsKnown place old_known s
    as_known = (known_allowed place old_known f checked s).0 a

    weaker : IsAsKnown place new_known s
    weaker = record { restarts = λ i h at. holds_if (slice_index_or s.blocks.items i h).restart (as_known.1.restarts i h at); end = as_known.1.end; frames = as_known.1.frames }

    segment_anew : IsAllowed (segment place new_known None checked) s
    segment_anew = (known_allowed place new_known None checked s).1 (fresh_allowed place unknown f None checked s major as_known.0, weaker)

    text_anew : (segment place old_known f checked).spelling s ≡ (segment place new_known None checked).spelling s
    text_anew = known_text place old_known f checked s ∙ sym (fresh_text place unknown f None checked s major as_known.0) ∙ sym (known_text place new_known None checked s)

-- ---- the segments of a unit

force_at_start : (n j : ℕ) → (coded_at (replicate n nothing_coded) j).force ≡ None
force_at_start zero zero = refl
force_at_start zero (suc j) = refl
force_at_start (suc n) zero = refl
force_at_start (suc n) (suc j) = force_at_start n j

record SegmentsAnew (c : Contents (List Segment)) (count : ℕ) (text : List Bool) (ss : List Segment) : Type 0 where
  found : FoundIn c text ss
  restart : AllRestart ss
  long : length ss ≡ count

module _ (k n : ℕ) (place : Place) (major : IsTrue place.major) (xs : List Coded) (old new : ℕ) (o : AccessUnit) (text : List Bool) where
  abbrev fresh : List Coded
  fresh = replicate n nothing_coded

  segments_anew : (count : ℕ) (before : List Segment) (ss : List Segment) → FoundIn (segments (portion k place xs old o) count before) text ss
      → SegmentsAnew (segments (portion k place fresh new o) count before) count text ss
  unfolding segments segment_first no_segments portion
  segments_anew zero before ss h = record { found = record { fits = h.fits; meets = tt }; restart = subst AllRestart (sym h.fits) tt; long = ap length h.fits }
  segments_anew (suc count) before [] h = absurd h.fits
  segments_anew (suc count) before (s ∷ ss) h =
      let j = length before in
      let f = (coded_at xs j).force in
      let checked = is_checked o.entries j in
      let a : IsAllowed (segment place (known_by (j == k) f old (covered_by before) (ending_of before)) f checked) s = record { fits = h.fits.0.0; meets = h.meets.0 } in
      let none : None ≡ (coded_at fresh j).force = sym (force_at_start n j) in
      let allowed = subst (λ (g : Option State). IsAllowed (segment place (known_by (j == k) g new (covered_by before) (ending_of before)) g checked) s) none
      (segment_anew (j == k) f old new (covered_by before) (ending_of before) place checked s major a) in
      let same = text_anew (j == k) f old new (covered_by before) (ending_of before) place checked s major a
      ∙ ap (λ (g : Option State). (segment place (known_by (j == k) g new (covered_by before) (ending_of before)) g checked).spelling s) none in
      let later = segments_anew count (before ++ s ∷ []) ss (record { fits = h.fits.1; meets = h.meets.1 }) in
      record {
        found = record { fits = ((allowed.fits, h.fits.0.1 ∙ same), later.found.fits); meets = (allowed.meets, later.found.meets) };
        restart = (restarts_first place (known_by (j == k) f old (covered_by before) (ending_of before)) f checked s major a, later.restart);
        long = ap suc later.long;
      }

-- ---- the unit

seed_unheard : (place : Place) (channels : ℕ → List ℤ) (m n : ℕ) (top : Segment) (o : Option State) → place.major ≡ true → heard_in place channels m top o ≡ heard_in place channels n top o
seed_unheard place channels m n top None e = refl
seed_unheard place channels m n top (Some s) e = rw e refl

pub record UnitAnew (k : ℕ) (l : Left) (first m : MajorSync) (all : List Bool) (u : Unit_of) : Type 0 where
  pub next : IsNext (whole k) (start k) all u
  pub rest : rest_of (whole k) l all u ≡ rest_of (whole k) (start k) all u
  pub frames : frames_out k l u ≡ frames_out k (start k) u
  pub alike : Alike first m
  pub like : Like (after k l u) (after k (start k) u)

module _ (k : ℕ) (l : Left) (first m : MajorSync) (all : List Bool) (u : Unit_of) (is_first : l.sync ≡ Some first) (is_here : u.outer.major ≡ Some m)
    (long : length l.substreams ≡ k + 1) (next : IsNext (whole k) l all u) where
  abbrev xs : List Coded
  xs = l.substreams

  abbrev ys : List Coded
  ys = replicate (k + 1) nothing_coded

  long_fresh : (n : ℕ) → length (replicate n nothing_coded) ≡ n
  long_fresh zero = refl
  long_fresh (suc n) = ap suc (long_fresh n)

  abbrev here : Place
  here = place_by l.sync u.outer.major

  abbrev anew : Place
  anew = place_by None u.outer.major

  major : is_some u.outer.major ≡ true
  major = ap is_some is_here

  found : Found (access_unit l.sync) all 0 u.outer
  unfolding tested
  found = record { fits = next.outer.fits; meets = next.outer.meets.1; stands = next.outer.stands }

  could : CouldBeFirst first m all u.outer
  could = could_be_first first m all u.outer (subst (λ (s : Option MajorSync). Found (access_unit s) all 0 u.outer) is_first found) is_here

  place_same : here ≡ anew
  place_same = place_alike l.sync None u.outer.major first m (ap (λ (s : Option MajorSync). in_force s u.outer.major) is_first) is_here could.alike

  text_same : spelling_of (whole k) l u ≡ spelling_of (whole k) (start k) u
  unfolding tested
  text_same = fits_text l.sync u.outer found.fits ∙ sym (fits_text None u.outer could.found.fits)

  parts : SegmentsAnew (segments (portion k here ys (folded 0) u.outer) (k + 1) []) (k + 1) (spelling_of (whole k) l u) u.contents
  parts = segments_anew k (k + 1) here major xs (folded l.check) (folded 0) u.outer (spelling_of (whole k) l u) (k + 1) [] u.contents next.contents

  next_anew : IsNext (whole k) (start k) all u
  unfolding tested
  next_anew = record {
    outer = record { fits = could.found.fits; meets = (refl, could.found.meets); stands = could.found.stands };
    contents = subst₂ (λ (p : Place) (t : List Bool). FoundIn (segments (portion k p ys (folded 0) u.outer) (k + 1) []) t u.contents) place_same text_same parts.found;
  }

  abbrev top : Segment
  top = top_of k u.contents

  top_restarts : Restarts top.blocks.items
  top_restarts = restarts_at u.contents k no_segment parts.restart (omega (arith, parts.long))

  force_anew : force_behind k l u ≡ force_behind k (start k) u
  force_anew = force_same here (coded_at xs k).force (coded_at ys k).force top.blocks.items top_restarts ∙ ap (λ (p : Place). force_after p (coded_at ys k).force top.blocks.items) place_same

  heard_anew : heard_of k l u ≡ heard_of k (start k) u
  unfolding heard_of
  heard_anew =
      let channels = channels_same here major xs ys u.contents (omega (arith, long, long_fresh (k + 1))) parts.restart in
      let force = force_same here (coded_at xs k).force (coded_at ys k).force top.blocks.items top_restarts in
      (λ i. heard_in here (channels i) l.seed top (force i))
      ∙ seed_unheard here (channel here ys u.contents) l.seed 0 top (force_after here (coded_at ys k).force top.blocks.items) major
      ∙ ap (λ (p : Place). heard_in p (channel p ys u.contents) 0 top (force_after p (coded_at ys k).force top.blocks.items)) place_same

  substreams_anew : coded_each here xs u.contents ≡ coded_each anew ys u.contents
  substreams_anew =
      each_same here major xs ys u.contents (omega (arith, long, parts.long)) (omega (arith, long_fresh (k + 1), parts.long)) parts.restart
      ∙ ap (λ (p : Place). coded_each p ys u.contents) place_same

  seed_given : (b : Bool) (s m n : ℕ) → b ≡ true → cond b s m ≡ cond b s n
  seed_given true s m n e = refl
  seed_given false s m n e = absurd cc

  like_anew : Like (after k l u) (after k (start k) u)
  unfolding after
  like_anew =
      let seed : cond (is_some u.outer.major) (seed_of (force_behind k l u)) l.seed ≡ cond (is_some u.outer.major) (seed_of (force_behind k (start k) u)) 0 =
      seed_given (is_some u.outer.major) (seed_of (force_behind k l u)) l.seed 0 major ∙ ap (λ (o : Option State). cond (is_some u.outer.major) (seed_of o) 0) force_anew in
      let check : cond (is_some u.outer.major) 0 l.check ≡ cond (is_some u.outer.major) 0 0 = seed_given (is_some u.outer.major) 0 l.check 0 major in
      record {
        first = first;
        other = m;
        is_first = ap (λ (s : Option MajorSync). in_force s u.outer.major) is_first;
        is_other = is_here;
        alike = could.alike;
        ended = refl;
        substreams = substreams_anew;
        seed = λ i. seed_at (seed i) (length top.codes.items);
        check = λ i. check_of (check i) (heard_anew i);
      }

  pub unit_anew : UnitAnew k l first m all u
  unit_anew = record {
    next = next_anew;
    rest = ap (λ (t : List Bool). drop (length t) all) text_same;
    frames = λ i. placed_by (force_anew i) (heard_anew i);
    alike = could.alike;
    like = like_anew;
  }
