-- Streams of the same bits for two presentations.
use Rattle.std.proofs.Common.{◌≡◌, ℕ, zero, suc, ◌+◌, ◌≤◌, ◌<◌, Bool, List, [], ◌∷◌, ◌++◌, length, take, drop, Result, Ok, Option, refl, sym, ap, subst, subst₂, ◌∙◌, arith}
use Rattle.std.proofs.lemmas.List.{take-replicate, get_or-take, length-append}
use Rattle.std.specs.Prelude.{map}
use Rattle.mlp_syntax.specs.declared.fault.Broken.{Broken}
use Rattle.mlp_syntax.specs.declared.major.MajorSync.{MajorSync}
use Rattle.mlp_syntax.specs.declared.segment.Segment.{Segment}
use Rattle.mlp_params.specs.declared.state.State.{State}
use Rattle.mlp_layout.specs.Layout.{Found, tested}
use Rattle.mlp_layout.specs.Tails.{FoundWhole}
use Rattle.mlp_layout.specs.Contents.{FoundIn, bits_in, segments, segment_first, no_segments}
use Rattle.mlp_layout.specs.Streams.{IsNext, rest_of, Begins, Stream}
use Rattle.mlp_layout.proofs.LayoutLaws.{has_one_reading}
use Rattle.mlp_layout.proofs.StreamLaws.{more_left}
use Rattle.mlp_unit.specs.AccessUnit.{AccessUnit, access_unit, in_force}
use Rattle.mlp_unit.proofs.UnitLaws.{access_unit_is}
use Rattle.mlp_substream.specs.declared.known.Place.{Place}
use Rattle.mlp_substream.specs.declared.known.Known.{Known}
use Rattle.mlp_substream.specs.Segment.{segment, unknown}
use Rattle.mlp_substream.proofs.KnownLaws.{known_text, known_allowed}
use Rattle.mlp_substream.proofs.SegmentLaws.{segment_is}
use Rattle.mlp_channels.specs.Channels.{Coded, nothing_coded, coded_after}
use Rattle.mlp_output.specs.Output.{folded}
use Rattle.mlp_contents.specs.Known.{known}
use Rattle.mlp_contents.specs.Units.{Left, Unit_of, start, coded_at, place_by, is_checked, portion, coded_each, after, whole}
use Rattle.mlp_contents.proofs.FormatLaws.{whole_is}
use Rattle.mlp_extracted.specs.Lower.{lowered}

-- ---- a segment

ok_same : (s t : Segment) → (let r : Result Segment Broken = Ok s in r) ≡ Ok t → s ≡ t
ok_same s t e = cc

module _ (place : Place) (force : Option State) (checked : Bool) (bits : List Bool) where
  -- as it is where nothing is known
  as_unknown : (known : Known) (s : Segment) → FoundWhole (segment place known force checked) bits s → FoundWhole (segment place unknown force checked) bits s
  as_unknown known s f =
      let a = ((known_allowed place known force checked s).0 (record { fits = f.fits; meets = f.meets })).0 in
      record { fits = a.fits; meets = a.meets; text_is = f.text_is ∙ known_text place known force checked s }

  -- whatever is known it is one
  one_segment : (a b : Known) (s t : Segment) → FoundWhole (segment place a force checked) bits s → FoundWhole (segment place b force checked) bits t → s ≡ t
  one_segment a b s t f g =
      let is = segment_is place unknown force checked in
      ok_same s t (sym (is.found bits s (as_unknown a s f)) ∙ is.found bits t (as_unknown b t g))

-- ---- the segments of a unit

coded_below : (j i : ℕ) (xs ys : List Coded) → ys ≡ take (j + 1) xs → i < j + 1 → coded_at ys i ≡ coded_at xs i
coded_below j i xs ys e lt = ap (λ (zs : List Coded). coded_at zs i) e ∙ get_or-take (j + 1) xs i nothing_coded lt

module _ (j k : ℕ) (place : Place) (xs ys : List Coded) (fewer : ys ≡ take (j + 1) xs) (check other : ℕ) (o : AccessUnit) (text : List Bool) where
  -- where the higher presentation has a segment the lower one has no other
  same_segment : (before : List Segment) (s t : Segment) → length before < j + 1
      → FoundWhole (portion k place xs check o before).text (bits_in (portion k place xs check o before) text) s
      → FoundWhole (portion j place ys other o before).text (bits_in (portion j place ys other o before) text) t → t ≡ s
  unfolding portion
  same_segment before s t lt f g =
      let i = length before in
      let same : (coded_at ys i).force ≡ (coded_at xs i).force = ap (λ (x : Coded). x.force) (coded_below j i xs ys fewer lt) in
      let checked = is_checked o.entries i in
      let bits = bits_in (portion k place xs check o before) text in
      let moved = subst (λ (force : Option State). FoundWhole (segment place (known j force other before) force checked) bits t) same g in
      one_segment place (coded_at xs i).force checked bits (known j (coded_at xs i).force other before) (known k (coded_at xs i).force check before) t s moved f

  same_segments : (m n : ℕ) (before ss ts : List Segment) → m ≤ n → length before + m ≡ j + 1 → FoundIn (segments (portion k place xs check o) n before) text ss
      → FoundIn (segments (portion j place ys other o) m before) text ts → ts ≡ take m ss
  unfolding segments segment_first no_segments
  same_segments zero n before ss ts le count f g = g.fits
  same_segments (suc m) zero before ss ts le count f g = absurd (omega (arith, le))
  same_segments (suc m) (suc n) before [] ts le count f g = absurd f.fits
  same_segments (suc m) (suc n) before (s ∷ ss) [] le count f g = absurd g.fits
  same_segments (suc m) (suc n) before (s ∷ ss) (t ∷ ts) le count f g =
      let one = same_segment before s t (omega (arith, count)) (record { fits = f.fits.0.0; meets = f.meets.0; text_is = f.fits.0.1 }) (record { fits = g.fits.0.0; meets = g.meets.0; text_is = g.fits.0.1 }) in
      let moved = subst (λ (x : Segment). FoundIn (segments (portion j place ys other o) m (before ++ x ∷ [])) text ts) one (record { fits = g.fits.1; meets = g.meets.1 }) in
      let later = same_segments m n (before ++ s ∷ []) ss ts (omega (arith, le)) (omega (arith, count, length-append before (s ∷ []))) (record { fits = f.fits.1; meets = f.meets.1 }) moved in
      λ i. one i ∷ later i

-- ---- a unit

-- what the same units leave for j and for k
record Lower (j : ℕ) (l m : Left) : Type 0 where
  sync : m.sync ≡ l.sync
  substreams : m.substreams ≡ take (j + 1) l.substreams

module _ (j k : ℕ) (le : j ≤ k) where
  start_lower : Lower j (start k) (start j)
  start_lower = record { sync = refl; substreams = sym (take-replicate (j + 1) (k + 1) nothing_coded (omega (arith, le))) }

  each_lower : (n : ℕ) (place : Place) (xs : List Coded) (ss : List Segment) → coded_each place (take n xs) (take n ss) ≡ take n (coded_each place xs ss)
  each_lower zero place xs ss = refl
  each_lower (suc n) place [] ss = refl
  each_lower (suc n) place (x ∷ xs) [] = refl
  each_lower (suc n) place (x ∷ xs) (s ∷ ss) = ap (λ (ys : List Coded). coded_after place x s ∷ ys) (each_lower n place xs ss)

  lower_behind : (l m : Left) (u : Unit_of) → Lower j l m → Lower j (after k l u) (after j m (lowered j u))
  unfolding after
  lower_behind l m u lower = record {
    sync = ap (λ (s : Option MajorSync). in_force s u.outer.major) lower.sync;
    substreams = (λ i. coded_each (place_by (lower.sync i) u.outer.major) (lower.substreams i) (take (j + 1) u.contents)) ∙ each_lower (j + 1) (place_by l.sync u.outer.major) l.substreams u.contents;
  }

  module _ (l m : Left) (lower : Lower j l m) (all : List Bool) (u v : Unit_of) (f : IsNext (whole k) l all u) (g : IsNext (whole j) m all v) where
    same_outer : v.outer ≡ u.outer
    unfolding tested
    same_outer =
        let other : Found (access_unit m.sync) all 0 v.outer = record { fits = g.outer.fits; meets = g.outer.meets.1; stands = g.outer.stands } in
        let moved = subst (λ (s : Option MajorSync). Found (access_unit s) all 0 v.outer) lower.sync other in
        (has_one_reading (access_unit_is l.sync) all 0 (omega arith)).one_value v.outer u.outer moved (record { fits = f.outer.fits; meets = f.outer.meets.1; stands = f.outer.stands })

    -- what it contains, behind the same first major sync
    same_contents : v.contents ≡ take (j + 1) u.contents
    unfolding tested
    same_contents =
        let read = λ (s : Option MajorSync) (o : AccessUnit). FoundIn (segments (portion j (place_by s o.major) m.substreams (folded m.check) o) (j + 1) []) ((access_unit s).spelling o) v.contents in
        let moved : read l.sync u.outer = subst₂ read lower.sync same_outer g.contents in
        same_segments j k (place_by l.sync u.outer.major) l.substreams m.substreams lower.substreams (folded l.check) (folded m.check) u.outer ((access_unit l.sync).spelling u.outer)
        (j + 1) (k + 1) [] u.contents v.contents (omega (arith, le)) (omega arith) f.contents moved

    same_unit : v ≡ lowered j u
    same_unit = λ i. record { outer = same_outer i; contents = same_contents i }

    same_rest : rest_of (whole j) m all v ≡ rest_of (whole k) l all u
    unfolding tested
    same_rest = λ i. drop (length ((access_unit (lower.sync i)).spelling (same_outer i))) all

  -- ---- units

  same_units : (l m : Left) (all : List Bool) (us vs : List Unit_of) → Lower j l m → Begins (whole k) l all us [] → Begins (whole j) m all vs [] → vs ≡ map (lowered j) us
  unfolding Begins
  same_units l m all [] [] lower b c = refl
  same_units l m all [] (v ∷ vs) lower b c = absurd (more_left (whole j) (whole_is j) m all v c.0 b)
  same_units l m all (u ∷ us) [] lower b c = absurd (more_left (whole k) (whole_is k) l all u b.0 c)
  same_units l m all (u ∷ us) (v ∷ vs) lower b c =
      let one = same_unit l m lower all u v b.0 c.0 in
      let left = subst (λ (w : Unit_of). Lower j (after k l u) (after j m w)) (sym one) (lower_behind l m u lower) in
      let later = same_units (after k l u) (after j m v) (rest_of (whole k) l all u) us vs left b.1 (subst (λ (t : List Bool). Begins (whole j) (after j m v) t vs []) (same_rest l m lower all u v b.0 c.0) c.1) in
      λ i. one i ∷ later i

pub lower_units : (j k : ℕ) (all : List Bool) (us vs : List Unit_of) → j ≤ k → Stream (whole k) (start k) k all us → Stream (whole j) (start j) j all vs → vs ≡ map (lowered j) us
lower_units j k all us vs le s t = same_units j k le (start k) (start j) all us vs (start_lower j k le) s.units.begins t.units.begins
