-- An extraction, unit by unit: for the presentations that it keeps the same stands in its units as in those of the stream.
use Rattle.std.proofs.Common.{◌≡◌, ℕ, ◌+◌, ◌≤◌, ◌<◌, cond, not, Bool, List, [], ◌∷◌, ◌++◌, length, drop, Option, Some, None, refl, sym, ap, subst, subst₂, ◌∙◌, arith}
use Rattle.std.proofs.lemmas.List.{take_at, drop_at, length-append}
use Rattle.std.specs.Prelude.{option_map, IsTrue}
use Rattle.mlp_syntax.specs.declared.major.MajorSync.{MajorSync}
use Rattle.mlp_syntax.specs.declared.segment.Segment.{Segment}
use Rattle.mlp_layout.specs.Layout.{Found, tested}
use Rattle.mlp_layout.specs.Reading.{Stands}
use Rattle.mlp_layout.specs.Allowed.{Allowed}
use Rattle.mlp_layout.specs.Contents.{Portion, FoundIn, bits_in, segments}
use Rattle.mlp_layout.specs.Streams.{IsNext, rest_of, Begins}
use Rattle.mlp_layout.proofs.LayoutLaws.{has_one_reading}
use Rattle.mlp_layout.proofs.StreamLaws.{more_left}
use Rattle.mlp_major.specs.MajorSync.{smaller}
use Rattle.mlp_unit.specs.AccessUnit.{AccessUnit, access_unit, in_force, substreams_of}
use Rattle.mlp_unit.specs.Extracted.{extracted}
use Rattle.mlp_unit.specs.Laws.{FewerMeets}
use Rattle.mlp_unit.specs.Written.{FirstUsable, unit_text}
use Rattle.mlp_unit.proofs.Fewer.{fewer_meets, force_smaller, some_smaller}
use Rattle.mlp_unit.proofs.Reread.{parts_of}
use Rattle.mlp_unit.proofs.UnitLaws.{access_unit_is}
use Rattle.mlp_unit.proofs.UnitRules.{fits_text}
use Rattle.mlp_substream.specs.Blocks.{force_after}
use Rattle.mlp_substream.specs.Segment.{segment}
use Rattle.mlp_output.specs.Output.{check_of, folded}
use Rattle.mlp_matrix.specs.Noise.{seed_at}
use Rattle.mlp_contents.specs.Known.{known}
use Rattle.mlp_contents.specs.Frames.{channel, heard_in}
use Rattle.mlp_contents.specs.Units.{Left, Unit_of, coded_at, place_by, place_of, portion, coded_each, top_of, force_behind, heard_of, placed_by, frames_out, seed_of, after, whole}
use Rattle.mlp_contents.proofs.FormatLaws.{whole_is}
use Rattle.mlp_samples.specs.Samples.{frames_by_steps}
use Rattle.mlp_samples.proofs.SyncLaws.{unit_usable}
use Rattle.mlp_likeness.specs.Cut.{frames_from}
use Rattle.mlp_likeness.proofs.OwnText.{texts}
use Rattle.mlp_extracted.specs.Extracted.{extracted_unit, extracted_units}
use Rattle.mlp_extracted.proofs.Portions.{checked_fewer, kept_bits}
use Rattle.mlp_extracted.proofs.Moved.{moved}

-- ---- what units leave

-- what units of an extraction leave, where those of the stream leave this
abbrev pub fewer_left : ℕ → Left → Left
fewer_left k l = record l { sync = option_map (smaller k) l.sync }

place_fewer : (k : ℕ) (first major : Option MajorSync) → place_by (option_map (smaller k) first) (option_map (smaller k) major) ≡ place_by first major
place_fewer k None None = refl
place_fewer k None (Some m) = refl
place_fewer k (Some f) None = refl
place_fewer k (Some f) (Some m) = refl

module _ (k j : ℕ) (l : Left) (u : Unit_of) where
  place_kept : place_of (fewer_left k l) (extracted k u.outer) ≡ place_of l u.outer
  place_kept = place_fewer k l.sync u.outer.major

  force_kept : force_behind j (fewer_left k l) (extracted_unit k u) ≡ force_behind j l u
  force_kept = λ i. force_after (place_kept i) (coded_at l.substreams j).force (top_of j u.contents).blocks.items

  heard_kept : heard_of j (fewer_left k l) (extracted_unit k u) ≡ heard_of j l u
  unfolding heard_of
  heard_kept = λ i. heard_in (place_kept i) (channel (place_kept i) l.substreams u.contents) l.seed (top_of j u.contents) (force_kept i)

  pub frames_kept : frames_out j (fewer_left k l) (extracted_unit k u) ≡ frames_out j l u
  frames_kept = λ i. placed_by (force_kept i) (heard_kept i)

  pub left_kept : after j (fewer_left k l) (extracted_unit k u) ≡ fewer_left k (after j l u)
  unfolding after
  left_kept =
      let there = some_smaller k u.outer.major in
      let force = force_smaller k l.sync u.outer.major in
      λ i. record {
        sync = force i;
        ended = (after j l u).ended;
        substreams = coded_each (place_kept i) l.substreams u.contents;
        seed = seed_at (cond (there i) (seed_of (force_kept i)) l.seed) (length (top_of j u.contents).codes.items);
        check = check_of (cond (there i) 0 l.check) (heard_kept i);
      }

-- the frames of several
pub frames_from_kept : (k j : ℕ) (l : Left) (us : List Unit_of) → frames_from j (fewer_left k l) (extracted_units k us) ≡ frames_from j l us
frames_from_kept k j l [] = refl
frames_from_kept k j l (u ∷ us) =
    let later = ap (λ (m : Left). frames_from j m (extracted_units k us)) (left_kept k j l u) ∙ frames_from_kept k j (after j l u) us in
    λ i. frames_kept k j l u i ∷ later i

pub steps_kept : (k j : ℕ) (l : Left) (us : List Unit_of) → frames_by_steps j (fewer_left k l) (extracted_units k us) ≡ frames_by_steps j l us
steps_kept k j l [] = refl
steps_kept k j l (u ∷ us) =
    let later = ap (λ (m : Left). frames_by_steps j m (extracted_units k us)) (left_kept k j l u) ∙ steps_kept k j (after j l u) us in
    λ i. frames_kept k j l u i ++ later i

-- ---- a unit

-- it has substream k, where the stream's first major sync tells it
deep : (k : ℕ) (first : Option MajorSync) (o : AccessUnit) → FirstUsable first → Allowed (access_unit first) o → k < substreams_of (in_force first o.major) → k < length o.entries
deep k first o usable a told = omega (arith, told, (parts_of first o (λ none. usable) a.fits a.meets).asked.count)

module _ (k j : ℕ) (le : j ≤ k) (l : Left) (o : AccessUnit) (usable : FirstUsable l.sync) (a : Allowed (access_unit l.sync) o) (told : k < substreams_of (in_force l.sync o.major)) where
  there_is : k < length o.entries
  there_is = deep k l.sync o usable a told

  fewer : FewerMeets k l.sync o
  fewer = fewer_meets k l.sync o usable a there_is

  abbrev here : List Segment → Portion Segment
  here = portion j (place_of l o) l.substreams (folded l.check) o

  abbrev there : List Segment → Portion Segment
  there = portion j (place_of (fewer_left k l) (extracted k o)) l.substreams (folded l.check) (extracted k o)

  abbrev text : List Bool
  text = (access_unit l.sync).spelling o

  abbrev kept : List Bool
  kept = (access_unit (option_map (smaller k) l.sync)).spelling (extracted k o)

  kept_text : kept ≡ unit_text (extracted k o)
  kept_text = fits_text (option_map (smaller k) l.sync) (extracted k o) fewer.allowed.fits

  same_portions : (before : List Segment) → length before < k + 1 → ((here before).text ≡ (there before).text) × (bits_in (here before) text ≡ bits_in (there before) kept)
  unfolding portion
  same_portions before lt =
      let place = place_fewer k l.sync o.major in
      let force = (coded_at l.substreams (length before)).force in
      let checked = checked_fewer (k + 1) o.entries (length before) lt in (
        sym (λ i. segment (place i) (known j force (folded l.check) before) force (checked i)),
        sym (kept_bits k l.sync o usable a there_is (length before) (omega (arith, lt))),
      )

  contents_kept : (ss : List Segment) → FoundIn (segments here (j + 1) []) text ss → FoundIn (segments there (j + 1) []) kept ss
  contents_kept ss f = moved here there text kept (k + 1) same_portions (j + 1) [] ss (omega (arith, le)) f

  contents_back : (ss : List Segment) → FoundIn (segments there (j + 1) []) kept ss → FoundIn (segments here (j + 1) []) text ss
  contents_back ss f = moved there here kept text (k + 1) (λ before lt. let e = same_portions before lt in (sym e.0, sym e.1)) (j + 1) [] ss (omega (arith, le)) f

  -- it stands before others
  outer_kept : (more : List Bool) → Found (access_unit (option_map (smaller k) l.sync)) (unit_text (extracted k o) ++ more) 0 (extracted k o)
  outer_kept more =
      let long : length kept ≡ length (unit_text (extracted k o)) = ap length kept_text in
      record {
        fits = fewer.allowed.fits;
        meets = fewer.allowed.meets;
        stands = record {
          within = omega (arith, long, length-append (unit_text (extracted k o)) more);
          text_is = take_at (unit_text (extracted k o)) more (length kept) (sym long) ∙ sym kept_text;
        };
      }

  next_kept : (more : List Bool) (ss : List Segment) → IsTrue (not l.ended) → FoundIn (segments here (j + 1) []) text ss
      → IsNext (whole j) (fewer_left k l) (unit_text (extracted k o) ++ more) (record { outer = extracted k o; contents = ss })
  unfolding tested
  next_kept more ss on f =
      let h = outer_kept more in
      record { outer = record { fits = h.fits; meets = (on, h.meets); stands = h.stands }; contents = contents_kept ss f }

  rest_kept : (more : List Bool) (ss : List Segment) → rest_of (whole j) (fewer_left k l) (unit_text (extracted k o) ++ more) (record { outer = extracted k o; contents = ss }) ≡ more
  unfolding tested
  rest_kept more ss = drop_at (unit_text (extracted k o)) more (length kept) (sym (ap length kept_text))

  -- and no other stands there
  module _ (more : List Bool) (v : Unit_of) (next : IsNext (whole j) (fewer_left k l) (unit_text (extracted k o) ++ more) v) where
    same_outer : v.outer ≡ extracted k o
    unfolding tested
    same_outer =
        (has_one_reading (access_unit_is (option_map (smaller k) l.sync)) (unit_text (extracted k o) ++ more) 0 (omega arith)).one_value v.outer (extracted k o)
        (record { fits = next.outer.fits; meets = next.outer.meets.1; stands = next.outer.stands }) (outer_kept more)

    next_back : (all : List Bool) → Stands all 0 text → IsNext (whole j) l all (record { outer = o; contents = v.contents })
    unfolding tested
    next_back all stands =
        let inside = subst (λ (x : AccessUnit). FoundIn ((whole j).contents (fewer_left k l) x) ((access_unit (option_map (smaller k) l.sync)).spelling x) v.contents) same_outer next.contents in
        record {
          outer = record { fits = a.fits; meets = (next.outer.meets.0, a.meets); stands = stands };
          contents = contents_back v.contents inside;
        }

-- ---- units

-- the stream's first major sync, which may be that of the first of these units, tells presentation k
abbrev pub Tells : ℕ → Option MajorSync → List Unit_of → Type 0
Tells k first [] = Unit {0}
Tells k first (u ∷ us) = k < substreams_of (in_force first u.outer.major)

pub tells_on : (k : ℕ) (first : Option MajorSync) (us : List Unit_of) → k < substreams_of first → Tells k first us
tells_on k first [] lt = tt
tells_on k None (u ∷ us) lt = absurd (omega (arith, lt))
tells_on k (Some m) (u ∷ us) lt = lt

-- of each unit holds what holds of all units that meet the rules on outer parts and have substream k
abbrev pub EachOuter : (AccessUnit → Type 0) → List Unit_of → Type 0
EachOuter P [] = Unit {0}
EachOuter P (u ∷ us) = P u.outer × EachOuter P us

pub each_outer : (k j : ℕ) (P : AccessUnit → Type 0)
    → ((first : Option MajorSync) (o : AccessUnit) → FirstUsable first → Allowed (access_unit first) o → k < length o.entries → P o)
    → (l : Left) (all : List Bool) (us : List Unit_of) (rest : List Bool) → FirstUsable l.sync → Tells k l.sync us → Begins (whole j) l all us rest → EachOuter P us
unfolding Begins tested after
each_outer k j P holds l all [] rest usable told b = tt
each_outer k j P holds l all (u ∷ us) rest usable told b =
    let a : Allowed (access_unit l.sync) u.outer = record { fits = b.0.outer.fits; meets = b.0.outer.meets.1 } in
    let behind = unit_usable l.sync all u.outer usable (record { fits = b.0.outer.fits; meets = b.0.outer.meets.1; stands = b.0.outer.stands }) in (
      holds l.sync u.outer usable a (deep k l.sync u.outer usable a told),
      each_outer k j P holds (after j l u) (rest_of (whole j) l all u) us rest behind (tells_on k (in_force l.sync u.outer.major) us told) b.1,
    )

pub units_kept : (k j : ℕ) → j ≤ k → (l : Left) (all : List Bool) (us : List Unit_of) (rest : List Bool) → FirstUsable l.sync → Tells k l.sync us → Begins (whole j) l all us rest
    → Begins (whole j) (fewer_left k l) (texts (extracted_units k us)) (extracted_units k us) []
unfolding Begins tested after
units_kept k j le l all [] rest usable told b = refl
units_kept k j le l all (u ∷ us) rest usable told b =
    let a : Allowed (access_unit l.sync) u.outer = record { fits = b.0.outer.fits; meets = b.0.outer.meets.1 } in
    let more = texts (extracted_units k us) in
    let first : Found (access_unit l.sync) all 0 u.outer = record { fits = b.0.outer.fits; meets = b.0.outer.meets.1; stands = b.0.outer.stands } in
    let later = units_kept k j le (after j l u) (rest_of (whole j) l all u) us rest (unit_usable l.sync all u.outer usable first) (tells_on k (in_force l.sync u.outer.major) us told) b.1 in (
      next_kept k j le l u.outer usable a told more u.contents b.0.outer.meets.0 b.0.contents,
      subst₂ (λ (m : Left) (t : List Bool). Begins (whole j) m t (extracted_units k us) []) (sym (left_kept k j l u)) (sym (rest_kept k j le l u.outer usable a told more u.contents)) later,
    )

-- units of an extraction for presentation j, where the stream's own are those of presentation k
pub record UnitsBack (k j : ℕ) (l : Left) (all : List Bool) (vs : List Unit_of) : Type 0 where
  pub units : List Unit_of
  pub begins : Begins (whole j) l all units []
  pub same : vs ≡ extracted_units k units

some_text : (k : ℕ) (left : Left) (o : AccessUnit) (more : List Bool) → ((whole k).outer left).Fits o → ((whole k).outer left).spelling o ≡ unit_text o → unit_text o ++ more ≡ [] → ⊥
some_text k left o more fits text none = omega (arith, (whole_is k).takes_bits left o fits, ap length text, ap length none, length-append (unit_text o) more)

pub units_back : (k j : ℕ) → j ≤ k → (l m : Left) (all : List Bool) (us vs : List Unit_of) → m.sync ≡ l.sync → FirstUsable l.sync → Tells k l.sync us → Begins (whole k) m all us []
    → Begins (whole j) (fewer_left k l) (texts (extracted_units k us)) vs [] → UnitsBack k j l all vs
unfolding Begins tested after
units_back k j le l m all [] [] sync usable told b c = record { units = []; begins = b; same = refl }
units_back k j le l m all [] (v ∷ vs) sync usable told b c = absurd (more_left (whole j) (whole_is j) (fewer_left k l) [] v c.0 refl)
units_back k j le l m all (u ∷ us) [] sync usable told b c =
    let a : Allowed (access_unit l.sync) u.outer = subst (λ (s : Option MajorSync). Allowed (access_unit s) u.outer) sync (record { fits = b.0.outer.fits; meets = b.0.outer.meets.1 }) in
    let f = fewer k j le l u.outer usable a told in
    absurd (some_text j (fewer_left k l) (extracted k u.outer) (texts (extracted_units k us)) f.allowed.fits (kept_text k j le l u.outer usable a told) c)
units_back k j le l m all (u ∷ us) (v ∷ vs) sync usable told b c =
    let found : Found (access_unit l.sync) all 0 u.outer =
    subst (λ (s : Option MajorSync). Found (access_unit s) all 0 u.outer) sync (record { fits = b.0.outer.fits; meets = b.0.outer.meets.1; stands = b.0.outer.stands }) in
    let a : Allowed (access_unit l.sync) u.outer = record { fits = found.fits; meets = found.meets } in
    let more = texts (extracted_units k us) in
    let w : Unit_of = record { outer = u.outer; contents = v.contents } in
    let same : v ≡ extracted_unit k w = let outer = same_outer k j le l u.outer usable a told more v c.0 in λ i. record { outer = outer i; contents = v.contents } in
    let rest : rest_of (whole k) m all u ≡ rest_of (whole j) l all w = ap (λ (s : Option MajorSync). drop (length ((access_unit s).spelling u.outer)) all) sync in
    let behind : after j (fewer_left k l) v ≡ fewer_left k (after j l w) = ap (after j (fewer_left k l)) same ∙ left_kept k j l w in
    let after_it : rest_of (whole j) (fewer_left k l) (unit_text (extracted k u.outer) ++ more) v ≡ more =
    ap (rest_of (whole j) (fewer_left k l) (unit_text (extracted k u.outer) ++ more)) same ∙ rest_kept k j le l u.outer usable a told more v.contents in
    let later = units_back k j le (after j l w) (after k m u) (rest_of (whole j) l all w) us vs (ap (λ (s : Option MajorSync). in_force s u.outer.major) sync)
    (unit_usable l.sync all u.outer usable found) (tells_on k (in_force l.sync u.outer.major) us told)
    (subst (λ (t : List Bool). Begins (whole k) (after k m u) t us []) rest b.1)
    (subst₂ (λ (x : Left) (t : List Bool). Begins (whole j) x t vs []) behind after_it c.1) in
    record {
      units = w ∷ later.units;
      begins = (next_back k j le l u.outer usable a told more v c.0 all found.stands, later.begins);
      same = λ i. same i ∷ later.same i;
    }
