-- Units that are retimed, one after the other: for each presentation the same is heard.
use Rattle.std.proofs.Common.{ℕ, zero, suc, ◌+◌, ◌*◌, ◌/◌, ◌%◌, ◌<◌, ◌≤◌, Bool, true, false, List, [], ◌∷◌, ◌++◌, length, take, drop, map, Option, Some, None, is_none}
use Rattle.std.proofs.Common.{◌≡◌, not, IsTrue, refl, sym, ap, subst, ◌∙◌, arith, append_assoc}
use Rattle.std.specs.Prelude.{is_some, option_map, if◌then◌else◌}
use Rattle.std.proofs.lemmas.List.{length-append, take_at, drop_at, take-append-drop}
use Rattle.std.proofs.lemmas.List.Elements.{All-nil, All-same}
use Rattle.mlp_syntax.specs.declared.major.MajorSync.{MajorSync}
use Rattle.mlp_syntax.specs.declared.segment.Segment.{Segment}
use Rattle.mlp_syntax.specs.declared.segment.BlockHead.{BlockHead}
use Rattle.mlp_layout.specs.Layout.{Found, tested}
use Rattle.mlp_layout.specs.Allowed.{Allowed}
use Rattle.mlp_layout.specs.Contents.{FoundIn, segments}
use Rattle.mlp_layout.specs.Streams.{IsNext, rest_of, Begins}
use Rattle.mlp_unit.specs.AccessUnit.{AccessUnit, access_unit, in_force, substreams_of}
use Rattle.mlp_unit.specs.Laws.{RewrittenMeets}
use Rattle.mlp_unit.specs.Written.{FirstUsable, unit_size, unit_text, written_unit}
use Rattle.mlp_unit.proofs.UnitRules.{fits_text}
use Rattle.mlp_unit.proofs.Reread.{parts_of}
use Rattle.mlp_substream.specs.declared.known.Place.{Place}
use Rattle.mlp_substream.specs.Timings.{SameButForTiming, stamp, stamp_head, stamped}
use Rattle.mlp_output.specs.Output.{folded}
use Rattle.mlp_contents.specs.Units.{Left, Unit_of, coded_at, place_by, place_of, portion, after, whole}
use Rattle.mlp_fifo.specs.declared.pace.Pace.{Pace}
use Rattle.mlp_fifo.specs.Schedule.{out_of}
use Rattle.mlp_samples.specs.Samples.{frames_by_steps}
use Rattle.mlp_samples.proofs.SyncLaws.{unit_usable}
use Rattle.mlp_likeness.specs.Cut.{frames_from}
use Rattle.mlp_likeness.proofs.OwnText.{texts}
use Rattle.mlp_extracted.specs.Lower.{lowered}
use Rattle.mlp_extracted.proofs.Portions.{bits_at}
use Rattle.mlp_retime.specs.Retimed.{own_text, stamped_body, retimed_unit, retimed_from}
use Rattle.mlp_retime.proofs.Decoders.{in_force_kept}
use Rattle.mlp_retime.proofs.Rewriting.{place_forced}
use Rattle.mlp_retimed.specs.Fits.{restart_timings}
use Rattle.mlp_retimed.proofs.Restarts.{Is, all_stamped, all_none}
use Rattle.mlp_retimed.proofs.Times.{FitsAt, AllFit, input_at, output_at}
use Rattle.mlp_retimed.proofs.Timeless.{bare_left, coded_at_bare, LikeUnit, like_unit}
use Rattle.mlp_retimed.proofs.Segments.{plain_there, stamped_there}
use Rattle.mlp_retimed.proofs.Bodies.{own_meets, own_stays, stamped_length, stamped_meets, stamped_stand}

-- ---- a unit

-- what is in force is the same but for the output timing
force_alike : (l m : Left) → bare_left l ≡ bare_left m → (i : ℕ) → SameButForTiming (coded_at l.substreams i).force (coded_at m.substreams i).force
force_alike l m e i =
    sym (ap (λ x. x.force) (coded_at_bare l.substreams i)) ∙ ap (λ (x : Left). (coded_at x.substreams i).force) e ∙ ap (λ x. x.force) (coded_at_bare m.substreams i)

-- a unit with this outer part and these contents is next behind m, and this is left of the bits
pub record Stands (j : ℕ) (m : Left) (more : List Bool) (v : Unit_of) : Type 0 where
  pub next : IsNext (whole j) m (unit_text v.outer ++ more) v
  pub rest : rest_of (whole j) m (unit_text v.outer ++ more) v ≡ more

module _ (j : ℕ) (l m : Left) (e : bare_left l ≡ bare_left m) (o : AccessUnit) (timing : ℕ) (body : List ℕ) (meets : RewrittenMeets l.sync timing o body)
    (on : IsTrue (not l.ended)) (more : List Bool) (ss : List Segment) where
  abbrev new : AccessUnit
  new = written_unit timing o.major o.entries body

  abbrev between : Left
  between = record l { substreams = m.substreams }

  new_text : (access_unit l.sync).spelling new ≡ unit_text new
  new_text = fits_text l.sync new meets.allowed.fits

  stands_between : FoundIn (segments (portion j (place_of l o) m.substreams (folded l.check) new) (j + 1) []) ((access_unit l.sync).spelling new) ss
      → Stands j between more (record { outer = new; contents = ss })
  unfolding tested
  stands_between f =
      let long : length ((access_unit l.sync).spelling new) ≡ length (unit_text new) = ap (λ (t : List Bool). length t) new_text in
      record {
        next = record {
          outer = record {
            fits = meets.allowed.fits;
            meets = (on, meets.allowed.meets);
            stands = record {
              within = omega (arith, long, length-append (unit_text new) more);
              text_is = take_at (unit_text new) more (length ((access_unit l.sync).spelling new)) (sym long) ∙ sym new_text;
            };
          };
          contents = f;
        };
        rest = drop_at (unit_text new) more (length ((access_unit l.sync).spelling new)) (sym long);
      }

  between_is : between ≡ m
  between_is = λ i. record { sync = (e i).sync; ended = (e i).ended; substreams = m.substreams; seed = (e i).seed; check = (e i).check }

  stands_new : FoundIn (segments (portion j (place_of l o) m.substreams (folded l.check) new) (j + 1) []) ((access_unit l.sync).spelling new) ss
      → Stands j m more (record { outer = new; contents = ss })
  stands_new f = subst (λ (x : Left). Stands j x more (record { outer = new; contents = ss })) between_is (stands_between f)

-- the same but for output timings
stamped_twice : (t : ℕ) (ss : List Segment) → map (stamped 0) ss ≡ map (stamped 0) (map (stamped t) ss)
stamped_twice t [] = refl
stamped_twice t (s ∷ ss) = let here = heads s.blocks.items in λ i. record s { blocks = record { items = here i } } ∷ stamped_twice t ss i
  where
    heads : (hs : List BlockHead) → map (stamp_head 0) hs ≡ map (stamp_head 0) (map (stamp_head t) hs)
    heads [] = refl
    heads (h ∷ hs) = let r = restart h.restart in λ i. record h { restart = r i } ∷ heads hs i
      where
        restart : (o : Option _) → option_map (stamp 0) o ≡ option_map (stamp 0) (option_map (stamp t) o)
        restart None = refl
        restart (Some r) = refl

take_stamped : (t n : ℕ) (ss : List Segment) → take n (map (stamped t) ss) ≡ map (stamped t) (take n ss)
take_stamped t zero ss = refl
take_stamped t (suc n) [] = refl
take_stamped t (suc n) (s ∷ ss) = ap (λ (xs : List Segment). stamped t s ∷ xs) (take_stamped t n ss)

-- a unit retimed for the presentations up to k, as j reads it
pub record Retimes (j : ℕ) (l m : Left) (output : ℕ) (u w : Unit_of) (more : List Bool) : Type 0 where
  pub stands : Stands j m more (lowered j w)
  pub like : LikeUnit j l m (lowered j u) (lowered j w)
  pub fits : FitsAt output u w

module _ (j k : ℕ) (le : j ≤ k) (L l m : Left) (same : L.sync ≡ l.sync) (e : bare_left l ≡ bare_left m) (all others : List Bool) (u : Unit_of)
    (high : IsNext (whole k) L all u) (low : IsNext (whole j) l others (lowered j u)) (usable : FirstUsable l.sync) (told : k < substreams_of (in_force l.sync u.outer.major))
    (input output : ℕ) (clock : input < 65536) (small : output < 65536) (more : List Bool) where
  abbrev o : AccessUnit
  o = u.outer

  allowed : Allowed (access_unit l.sync) o
  unfolding tested
  allowed = record { fits = low.outer.fits; meets = low.outer.meets.1 }

  on : IsTrue (not l.ended)
  unfolding tested
  on = low.outer.meets.0

  deep : k < length o.entries
  deep = omega (arith, told, (parts_of l.sync o (λ none. usable) allowed.fits allowed.meets).asked.count)

  same_size : (body : List ℕ) → length body ≡ length o.body → 2 * (unit_size o.major o.entries body / 2) ≡ 2 * o.head.words
  same_size body e = omega (arith, e, (parts_of l.sync o (λ none. usable) allowed.fits allowed.meets).size)

  abbrev place : Place
  place = place_of l o

  low_there : FoundIn (segments (portion j place l.substreams (folded l.check) o) (j + 1) []) ((access_unit l.sync).spelling o) (take (j + 1) u.contents)
  unfolding tested
  low_there = low.contents

  high_there : FoundIn (segments (portion k place L.substreams (folded L.check) o) (k + 1) []) ((access_unit l.sync).spelling o) u.contents
  unfolding tested
  high_there = subst (λ (s : Option MajorSync). FoundIn (segments (portion k (place_by s o.major) L.substreams (folded L.check) o) (k + 1) []) ((access_unit s).spelling o) u.contents) same high.contents

  -- without a major sync only its input timing is another
  plain : Unit_of
  plain = record { outer = written_unit input o.major o.entries o.body; contents = u.contents }

  plain_retimes : place.major ≡ false → Retimes j l m output u plain more
  unfolding plain
  plain_retimes none = record {
    stands = stands_new j l m e o input o.body (own_meets l.sync o usable allowed input clock) on more (take (j + 1) u.contents)
        (plain_there j place l.substreams m.substreams (force_alike l m e) (folded l.check) o input o.body ((access_unit l.sync).spelling o)
        ((access_unit l.sync).spelling (written_unit input o.major o.entries o.body)) (λ i lt. own_stays l.sync o usable allowed input clock i (omega (arith, lt, le, deep)))
        (j + 1) [] (take (j + 1) u.contents) (omega arith) low_there);
    like = like_unit j l m (lowered j u) (lowered j plain) e refl refl;
    fits = record {
      outputs = All-same (Is output) (restart_timings u.contents) [] (all_none k place L.substreams (folded L.check) o ((access_unit l.sync).spelling o) none (k + 1) [] u.contents high_there) (All-nil (Is output));
      length = same_size o.body refl;
    };
  }

  module _ (major : IsTrue place.major) where
    abbrev body : List ℕ
    body = stamped_body place output u

    stamped_one : Unit_of
    stamped_one = record { outer = written_unit input o.major o.entries body; contents = map (stamped output) u.contents }

    stand_low : (before : List Segment) (s : Segment) (rest : List Segment) → take (j + 1) u.contents ≡ before ++ s ∷ rest
        → bits_at (written_unit input o.major o.entries body) (length before) ((access_unit l.sync).spelling (written_unit input o.major o.entries body)) ≡ own_text place (stamped output s)
    stand_low before s rest is =
        stamped_stand l.sync o usable allowed k place major L.substreams (folded L.check) output small u.contents high_there deep input clock before s (rest ++ drop (j + 1) u.contents)
        (sym (take-append-drop (j + 1) u.contents) ∙ ap (λ (xs : List Segment). xs ++ drop (j + 1) u.contents) is ∙ append_assoc before (s ∷ rest) (drop (j + 1) u.contents))

    stamped_retimes : Retimes j l m output u stamped_one more
    unfolding stamped_one
    stamped_retimes =
        let there = stamped_there j place l.substreams m.substreams (force_alike l m e) (folded l.check) o input body ((access_unit l.sync).spelling o)
        ((access_unit l.sync).spelling (written_unit input o.major o.entries body)) output small major (take (j + 1) u.contents) stand_low (j + 1) [] (take (j + 1) u.contents) refl low_there in
        let meets = stamped_meets l.sync o usable allowed k place major L.substreams (folded L.check) output small u.contents high_there deep input clock in
        let taken = take_stamped output (j + 1) u.contents in
        record {
          stands = subst (λ (ss : List Segment). Stands j m more (record { outer = written_unit input o.major o.entries body; contents = ss })) (sym taken)
              (stands_new j l m e o input body meets on more (map (stamped output) (take (j + 1) u.contents)) there);
          like = like_unit j l m (lowered j u) (lowered j stamped_one) e refl (stamped_twice output (take (j + 1) u.contents) ∙ sym (ap (map (stamped 0)) taken));
          fits = record {
            outputs = all_stamped output u.contents;
            length = same_size body (stamped_length l.sync o usable allowed k place major L.substreams (folded L.check) output small u.contents high_there deep);
          };
        }

  abbrev by : Bool → Unit_of
  by b = record {
    outer = written_unit input o.major o.entries (if b then stamped_body place output u else o.body);
    contents = if b then map (stamped output) u.contents else u.contents;
  }

  by_case : (b : Bool) → is_some o.major ≡ b → Retimes j l m output u (by b) more
  unfolding plain stamped_one
  by_case true is = stamped_retimes is
  by_case false is = plain_retimes is

  pub unit_retimes : (sync : Option MajorSync) → in_force l.sync o.major ≡ sync → Retimes j l m output u (retimed_unit sync input output u) more
  unit_retimes sync first =
      let here : place_by sync o.major ≡ place = ap (λ (s : Option MajorSync). place_by s o.major) (sym first) ∙ place_forced l.sync o.major in
      let is : by (is_some o.major) ≡ retimed_unit sync input output u =
      λ i. record {
        outer = written_unit input o.major o.entries (if is_some o.major then stamped_body (sym here i) output u else o.body);
        contents = if is_some o.major then map (stamped output) u.contents else u.contents;
      } in
      subst (λ (w : Unit_of). Retimes j l m output u w more) is (by_case (is_some o.major) refl)

-- ---- units

-- the first major sync is this, by that before these units or that of the first
abbrev pub Begun : Option MajorSync → Option MajorSync → List Unit_of → Type 0
Begun sync first [] = Unit {0}
Begun sync first (u ∷ us) = in_force first u.outer.major ≡ sync

found_in : (j : ℕ) (l : Left) (others : List Bool) (v : Unit_of) → IsNext (whole j) l others v → Found (access_unit l.sync) others 0 v.outer
unfolding tested
found_in j l others v c = record { fits = c.outer.fits; meets = c.outer.meets.1; stands = c.outer.stands }

-- units and the same retimed, as j reads them
pub record AllRetimed (j : ℕ) (l m : Left) (p : Pace) (n : ℕ) (times : List ℕ) (us vs : List Unit_of) : Type 0 where
  pub begins : Begins (whole j) m (texts (map (lowered j) vs)) (map (lowered j) vs) []
  pub frames : frames_from j l (map (lowered j) us) ≡ frames_from j m (map (lowered j) vs)
  pub steps : frames_by_steps j l (map (lowered j) us) ≡ frames_by_steps j m (map (lowered j) vs)
  pub fit : AllFit p n times us vs

module _ (j k : ℕ) (le : j ≤ k) (sync : Option MajorSync) (there : is_none sync ≡ false) (told : k < substreams_of sync) (p : Pace) where
  begun_on : (first : Option MajorSync) (u : Unit_of) (us : List Unit_of) → in_force first u.outer.major ≡ sync → Begun sync (in_force first u.outer.major) us
  begun_on first u [] e = tt
  begun_on first u (v ∷ us) e = ap (λ (s : Option MajorSync). in_force s v.outer.major) e ∙ in_force_kept sync v.outer.major there

  pub all_retimed : (n : ℕ) (times : List ℕ) (us : List Unit_of) → length times ≡ length us → (L l m : Left) → L.sync ≡ l.sync → bare_left l ≡ bare_left m → FirstUsable l.sync → Begun sync l.sync us
      → (all others : List Bool) → Begins (whole k) L all us [] → Begins (whole j) l others (map (lowered j) us) []
      → AllRetimed j l m p n times us (retimed_from sync p n times us)
  unfolding Begins after
  all_retimed n times [] count L l m same e usable begun all others b c = record {
    begins = refl;
    frames = refl;
    steps = refl;
    fit = record { lengths = refl; inputs = λ i lt. absurd (omega (arith, lt)); outputs = λ i lt. absurd (omega (arith, lt)) };
  }
  all_retimed n [] (u ∷ us) count L l m same e usable begun all others b c = absurd (omega (arith, count))
  all_retimed n (t ∷ times) (u ∷ us) count L l m same e usable begun all others b c =
      let vs = retimed_from sync p (suc n) times us in
      let w = retimed_unit sync (t % 65536) (out_of p n % 65536) u in
      let v = lowered j u in
      let more = texts (map (lowered j) vs) in
      let lt : k < substreams_of (in_force l.sync u.outer.major) = subst (λ (s : Option MajorSync). k < substreams_of s) (sym begun) told in
      let one = unit_retimes j k le L l m same e all others u b.0 c.0 usable lt (t % 65536) (out_of p n % 65536) (omega arith) (omega arith) more sync begun in
      let found : Found (access_unit l.sync) others 0 u.outer = found_in j l others v c.0 in
      let later = all_retimed (suc n) times us (omega (arith, count)) (after k L u) (after j l v) (after j m (lowered j w)) (ap (λ (s : Option MajorSync). in_force s u.outer.major) same) one.like.left
      (unit_usable l.sync others u.outer usable found) (begun_on l.sync u us begun) (rest_of (whole k) L all u) (rest_of (whole j) l others v) b.1 c.1 in
      record {
        begins = (one.stands.next, subst (λ (x : List Bool). Begins (whole j) (after j m (lowered j w)) x (map (lowered j) vs) []) (sym one.stands.rest) later.begins);
        frames = λ i. one.like.frames i ∷ later.frames i;
        steps = λ i. one.like.frames i ++ later.steps i;
        fit = record {
          lengths = λ i. one.fits.length i ∷ later.fit.lengths i;
          inputs = input_at w us vs t times refl later.fit.inputs;
          outputs = output_at w us vs p n one.fits.outputs later.fit.outputs;
        };
      }
