-- One more unit of an interval was read.
use Rattle.std.proofs.Common.{◌≡◌, ◌≢◌, ℕ, ◌+◌, ◌-◌, ◌<◌, ◌≤◌, ◌&&◌, ltb, Bool, true, false, List, [], ◌∷◌, ◌++◌, length, take, drop, Ok, Err, Option, Some, None, inl, inr, refl}
use Rattle.std.proofs.Common.{sym, ap, subst, ◌∙◌, arith, length-append, length-drop, ℤ, ◌⊎◌}
use Rattle.std.specs.Prelude.{is_some, is_none, All}
use Rattle.std.proofs.lemmas.Bool.{lt-ltb, ltb-true}
use Rattle.std.proofs.lemmas.List.{drop-drop, take_all}
use Rattle.std.proofs.lemmas.List.Elements.{All-nil, All-push}
use Rattle.mlp_io.specs.Limit.{limit}
use Rattle.mlp_syntax.specs.declared.fault.Broken.{Broken}
use Rattle.mlp_syntax.specs.declared.major.MajorSync.{MajorSync}
use Rattle.mlp_syntax.specs.declared.segment.Segment.{Segment}
use Rattle.mlp_bits.specs.Bits.{bits_of}
use Rattle.mlp_layout.specs.Reading.{Read}
use Rattle.mlp_layout.specs.Layout.{Found}
use Rattle.mlp_layout.specs.Streams.{Begins, left_after}
use Rattle.mlp_layout.proofs.StreamLaws.{left_more}
use Rattle.mlp_major.specs.MajorSync.{rate_in_hertz}
use Rattle.mlp_unit.specs.AccessUnit.{AccessUnit, access_unit, in_force, stream_rate}
use Rattle.mlp_unit.proofs.UnitLaws.{access_unit_is}
use Rattle.mlp_walk.specs.declared.refusal.Refusal.{Refusal}
use Rattle.mlp_walk.specs.Meaning.{HasTaken}
use Rattle.mlp_walk.specs.Next.{Taken, next_of}
use Rattle.mlp_walk.proofs.NextLaws.{FromUnit, from_unit}
use Rattle.mlp_walk.proofs.WalkLaws.{taken_none, takes_one}
use Rattle.mlp_contents.specs.Units.{Left, Unit_of, start, whole, after, frames_out}
use Rattle.mlp_contents.proofs.FormatLaws.{whole_is, whole_bytes}
use Rattle.mlp_samples.specs.Samples.{frames_by_steps, samples}
use Rattle.mlp_samples.proofs.Streams.{samples_are, in_force_some}
use Rattle.mlp_present.specs.Parts.{Next}
use Rattle.mlp_present.specs.Decoding.{Held, opened, unless_refused, next_unit, after_unit, GivesUnit, channels_by}
use Rattle.mlp_present.specs.Laws.{HoldsUnits}
use Rattle.mlp_recover.specs.declared.reach.Reach.{Reach}
use Rattle.mlp_recover.specs.Interval.{HasNoSync, NoneAt}
use Rattle.mlp_samples.specs.Behind.{left_behind}
use Rattle.mlp_recover.specs.Reading.{has_major, is_behind, NoFirst, IsRateOf, IsRead, IsGrowing, one_on, IsReached, IsKeptFrom}
use Rattle.mlp_recover.proofs.Intervals.{interval_some, interval_taken, taken_stream, refused_at}
use Rattle.mlp_recover.proofs.Syncs.{first_major, first_of_units}

-- the bytes from a place on
pub from_place : (bytes : List ℕ) (place : ℕ) → take (length bytes - place) (drop place bytes) ≡ drop place bytes
from_place bytes place = take_all (length bytes - place) (drop place bytes) (omega (arith, length-drop place bytes))

-- ---- what a decoder that holds units says

next_by : List ℕ → Option Refusal → ℕ → ℕ → Left → Next
next_by next refusal k number left = unless_refused refusal (next_of (whole k) (Some k) number left next)

next_held : (k : ℕ) (us : List Unit_of) (held : Held) (next : List ℕ) → HoldsUnits k us held → next_unit held next ≡ next_of (whole k) (Some k) (length us) (left_behind k us) next
unfolding next_by
next_held k us held next h =
    ap (λ (r : Option Refusal). next_by next r held.k held.units held.left) h.none_refused
    ∙ ap (λ (j : ℕ). next_by next None j held.units held.left) h.k_is
    ∙ ap (λ (n : ℕ). next_by next None k n held.left) h.units_are
    ∙ ap (next_by next None k (length us)) h.left_is

behind_more : (k : ℕ) (us : List Unit_of) (u : Unit_of) → left_behind k (us ++ u ∷ []) ≡ after k (left_behind k us) u
behind_more k us u = left_more (whole k) (whole_is k) (start k) us (u ∷ [])

after_held : (k : ℕ) (us : List Unit_of) (held : Held) (u : Unit_of) → HoldsUnits k us held → after held.k held.left u ≡ left_behind k (us ++ u ∷ [])
after_held k us held u h = ap (λ (j : ℕ). after j held.left u) h.k_is ∙ ap (λ (l : Left). after k l u) h.left_is ∙ sym (behind_more k us u)

holds_more : (k : ℕ) (us : List Unit_of) (held : Held) (u : Unit_of) → HoldsUnits k us held → HoldsUnits k (us ++ u ∷ []) (after_unit held u)
holds_more k us held u h = record {
  k_is = h.k_is;
  units_are = omega (arith, h.units_are, length-append us (u ∷ []));
  left_is = after_held k us held u h;
  none_refused = refl;
}

channels_more : (k : ℕ) (us : List Unit_of) (held : Held) (u : Unit_of) → HoldsUnits k us held → (after_unit held u).channels ≡ channels_by k (left_behind k (us ++ u ∷ []))
channels_more k us held u h = ap (λ (j : ℕ). channels_by j (after held.k held.left u)) h.k_is ∙ ap (channels_by k) (after_held k us held u h)

frames_more : (k : ℕ) (left : Left) (us : List Unit_of) (u : Unit_of) → length (frames_by_steps k left (us ++ u ∷ [])) ≡ length (frames_by_steps k left us) + length (frames_out k (left_after (whole k) left us) u)
frames_more k left [] u = omega (arith, length-append (frames_out k left u) [])
frames_more k left (v ∷ us) u =
    let later = frames_more k (after k left v) us u in
    omega (arith, later, length-append (frames_out k left v) (frames_by_steps k (after k left v) (us ++ u ∷ [])), length-append (frames_out k left v) (frames_by_steps k (after k left v) us))

pub none_of : (o : Option MajorSync) → is_some o ≡ false → is_none o ≡ true
none_of None e = refl
none_of (Some m) e = absurd cc

-- ---- major syncs

both : (a b : Bool) → (a && b) ≡ true → (a ≡ true) × (b ≡ true)
both true true e = (refl, refl)
both true false e = absurd cc
both false b e = absurd cc

second : (a b : Bool) → (a && b) ≡ false → a ≡ true → b ≡ false
second true b e t = e
second false b e t = absurd cc

some_units : (us : List Unit_of) (units : ℕ) → units ≡ length us → us ≢ [] → ltb 0 units ≡ true
some_units [] units e some = absurd (some refl)
some_units (u ∷ us) units e some = lt-ltb 0 units (omega (arith, e))

not_empty : (us : List Unit_of) → 0 < length us → us ≢ []
not_empty us lt e = omega (arith, ap length e)

pub alone_more : (us : List Unit_of) (u : Unit_of) → All HasNoSync (drop 1 us) → (us ≢ [] → HasNoSync u) → All HasNoSync (drop 1 (us ++ u ∷ []))
alone_more [] u alone free = All-nil HasNoSync
alone_more (v ∷ us) u alone free = All-push HasNoSync us u alone (free (λ e. cc))

-- ---- one more unit

module _ (k : ℕ) (bytes : List ℕ) (first : ℕ) (us : List Unit_of) (held : Held) (reach : Reach) (g : IsGrowing k bytes first us held reach) where
  abbrev rest : List ℕ
  rest = drop reach.past bytes

  -- the next is refused: no interval stands there
  pub broken_at : (r : Refusal) → next_unit held rest ≡ Err r → NoneAt k bytes first
  broken_at r e = refused_at k bytes first reach.past us r g.read.taken g.read.alone g.more g.going (sym (next_held k us held rest g.read.held_is) ∙ e)

  module _ (size : ℕ) (rows : List (List ℤ)) (new : Held) (given : GivesUnit held rest size rows new) where
    abbrev u : Unit_of
    u = given.unit

    abbrev taken : Taken AccessUnit (List Segment)
    taken = record { size = size; unit = given.unit }

    next_is : next_of (whole k) (Some k) (length us) (left_behind k us) rest ≡ Ok taken
    next_is = sym (next_held k us held rest g.read.held_is) ∙ given.next_is

    from : FromUnit (whole k) (whole_is k) (left_behind k us) rest taken
    from = from_unit (whole k) (whole_is k) (whole_bytes k) (Some k) (length us) (left_behind k us) rest taken next_is

    major_is : has_major new.latest ≡ is_some u.outer.major
    major_is = ap has_major given.latest_is ∙ ap (λ (o : AccessUnit). is_some o.major) (sym given.outer_is)

    units_some : ltb 0 reach.units ≡ true → us ≢ []
    units_some some = not_empty us (omega (arith, g.read.units, by_test (ltb 0 reach.units) refl some))
      where
        by_test : (b : Bool) → ltb 0 reach.units ≡ b → b ≡ true → 0 < reach.units
        by_test b e t = ltb-true 0 reach.units (e ∙ t)

    -- it begins another interval
    pub ends_before : is_behind reach.units new.latest ≡ true → IsReached k bytes first us reach
    ends_before h =
        let two = both (ltb 0 reach.units) (has_major new.latest) h in
        let some = units_some two.0 in
        record {
          interval = record {
            some = omega (arith, g.read.room, g.read.units, ltb-true 0 reach.units two.0);
            within = g.read.within;
            stream = taken_stream k bytes first reach.past us (omega (arith, g.read.room, g.read.units, ltb-true 0 reach.units two.0)) g.read.within some g.read.taken;
            alone = g.read.alone;
            ends = inr (inr (record { unit = u; next = from.next; major = sym major_is ∙ two.1 }));
          };
          units = g.read.units;
          frames = g.read.frames;
          few = omega (arith, g.read.few, g.read.room);
          channels = g.read.channels some;
        }

    abbrev more : List Unit_of
    more = us ++ u ∷ []

    -- .. or it belongs to this one
    pub read_more : (n channels : ℕ) → size ≤ length rest → 4 ≤ size → n ≡ length rows → n ≤ 160 → channels ≡ new.channels → is_behind reach.units new.latest ≡ false
        → IsRead k bytes first more new (one_on reach size n channels)
    read_more n channels inside four count small same h =
        let held_more = subst (HoldsUnits k more) (sym given.held_is) (holds_more k us held u g.read.held_is) in
        let free : us ≢ [] → HasNoSync u = λ some. none_of u.outer.major (sym major_is ∙ second (ltb 0 reach.units) (has_major new.latest) h (some_units us reach.units g.read.units some)) in
        let one = takes_one (whole k) (whole_is k) (start k) (whole_bytes k) (Some k) (drop first bytes) us rest taken g.read.taken next_is in
        let frames : length rows ≡ length (frames_out k (left_behind k us) u) =
        ap length given.frames_are ∙ ap (λ (j : ℕ). length (frames_out j held.left u)) g.read.held_is.k_is ∙ ap (λ (l : Left). length (frames_out k l u)) g.read.held_is.left_is in
        record {
          taken = subst (HasTaken (whole k) (start k) (Some k) (drop first bytes) more) (drop-drop size reach.past bytes) one;
          alone = alone_more us u g.read.alone free;
          room = omega (arith, g.read.room, length-append us (u ∷ []), four);
          within = omega (arith, inside, length-drop reach.past bytes, g.more);
          held_is = held_more;
          units = omega (arith, g.read.units, length-append us (u ∷ []));
          frames = omega (arith, g.read.frames, count, frames, frames_more k (start k) us u);
          few = omega (arith, g.read.few, small, length-append us (u ∷ []));
          channels = λ some. same ∙ ap (λ (x : Held). x.channels) given.held_is ∙ channels_more k us held u g.read.held_is;
        }

pub one_more : (us : List Unit_of) (u : Unit_of) → us ++ u ∷ [] ≢ []
one_more us u = not_empty (us ++ u ∷ []) (omega (arith, length-append us (u ∷ [])))

-- ---- whether the units end there

module _ (k : ℕ) (bytes : List ℕ) (first : ℕ) (us : List Unit_of) (held : Held) (reach : Reach) (r : IsRead k bytes first us held reach) (some : us ≢ []) where
  length_some : (vs : List Unit_of) → vs ≢ [] → 0 < length vs
  length_some [] some = absurd (some refl)
  length_some (v ∷ vs) some = omega arith

  ends_by : ((reach.past ≡ length bytes) ⊎ (held.left.ended ≡ true)) → IsReached k bytes first us reach
  ends_by end =
      let lt : first < reach.past = let n = length_some us some in omega (arith, r.room, n) in
      record {
        interval = record {
          some = lt;
          within = r.within;
          stream = taken_stream k bytes first reach.past us lt r.within some r.taken;
          alone = r.alone;
          ends = elim end [ inl all ↦ inl all | inr ended ↦ inr (inl (ap (λ (l : Left). l.ended) (sym r.held_is.left_is) ∙ ended)) ];
        };
        units = r.units;
        frames = r.frames;
        few = omega (arith, r.few, r.room);
        channels = r.channels some;
      }

  pub ends_all : reach.past ≡ length bytes → IsReached k bytes first us reach
  ends_all e = ends_by (inl e)

  pub ends_ended : held.left.ended ≡ true → IsReached k bytes first us reach
  ends_ended e = ends_by (inr e)

  pub grows : held.left.ended ≡ false → reach.past ≢ length bytes → IsGrowing k bytes first us held reach
  grows going more = record {
    read = r;
    more = omega (arith, r.within, more);
    going = λ some. ap (λ (l : Left). l.ended) (sym r.held_is.left_is) ∙ going;
  }

-- ---- the whole interval

no_first : (k : ℕ) → HoldsUnits k [] (opened k)
no_first k = record { k_is = refl; units_are = refl; left_is = refl; none_refused = refl }

-- before its first unit
pub growing_none : (k : ℕ) (bytes : List ℕ) (first : ℕ) (held : Held) → held ≡ opened k → first < length bytes → IsGrowing k bytes first [] held (record { past = first; units = 0; frames = 0; channels = 0 })
growing_none k bytes first held e lt = record {
  read = record {
    taken = taken_none (whole k) (whole_is k) (start k) (Some k) (drop first bytes);
    alone = All-nil HasNoSync;
    room = omega arith;
    within = omega arith;
    held_is = subst (HoldsUnits k []) (sym e) (no_first k);
    units = refl;
    frames = refl;
    few = omega arith;
    channels = λ some. absurd (some refl);
  };
  more = lt;
  going = λ some. absurd (some refl);
}

-- the first major sync stays
sync_stays : (k : ℕ) (o : Option MajorSync) → is_some o ≡ true → (left : Left) (us : List Unit_of) → left.sync ≡ o → (left_after (whole k) left us).sync ≡ o
unfolding after
sync_stays k o some left [] e = e
sync_stays k o some left (u ∷ us) e =
    sync_stays k o some (after k left u) us (ap (λ (p : Option MajorSync). in_force p u.outer.major) e ∙ in_force_some o u.outer.major some)

first_sync : (k : ℕ) (u : Unit_of) → (after k (start k) u).sync ≡ u.outer.major
unfolding after
first_sync k u = refl

rate_is : (k : ℕ) (bytes : List ℕ) (first : ℕ) (us : List Unit_of) (rest : List Bool) (rate : ℕ) → Begins (whole k) (start k) (bits_of (drop first bytes)) us rest → us ≢ [] → IsRateOf (drop first bytes) rate
    → rate ≡ stream_rate (left_behind k us).sync
rate_is k bytes first us rest rate b some of =
    let one = first_of_units k bytes first us rest b some in
    let u = one.0 in
    let major = first_major (bits_of (drop first bytes)) u.outer one.3 in
    let sync : (left_behind k us).sync ≡ u.outer.major =
    ap (λ (vs : List Unit_of). (left_behind k vs).sync) one.2 ∙ sync_stays k u.outer.major major (after k (start k) u) one.1 (first_sync k u) in
    of u.outer one.3 ∙ ap stream_rate (sym sync)

pub kept_from : (k : ℕ) (bytes : List ℕ) (first : ℕ) (reach : Reach) (rate : ℕ) → (us : List Unit_of) → IsReached k bytes first us reach → IsRateOf (drop first bytes) rate → length bytes ≤ limit
    → IsKeptFrom k bytes first (record { first = first; past = reach.past; kept = true; units = reach.units; frames = reach.frames; channels = reach.channels; rate = rate })
kept_from k bytes first reach rate us r of le =
    let taken = interval_taken k bytes first reach.past us r.interval in
    let some = interval_some k bytes first reach.past us r.interval in
    let rates = rate_is k bytes first us (bits_of (drop reach.past bytes)) rate taken.begins some of in
    let frames : reach.frames ≡ length (samples k us) = r.frames ∙ ap length (samples_are k (bits_of (drop first bytes)) (bits_of (drop reach.past bytes)) us taken.begins) in
    let units = r.units in
    let channels = r.channels in
    (reach.past, us, r.interval, rw (units, frames, channels, rates) refl, omega (arith, r.few, r.interval.within, le))

-- what is read of a first unit
module _ (next : List ℕ) where
  abbrev ok_of : AccessUnit × ℕ → Read AccessUnit
  ok_of x = Ok x

  same_first : (u v : AccessUnit) (n : ℕ) → (access_unit None).read (bits_of next) 0 ≡ Ok (v, n) → Found (access_unit None) (bits_of next) 0 u → u ≡ v
  same_first w v n e f = ap (λ (x : AccessUnit × ℕ). x.0) (ok_is _ _ (sym ((access_unit_is None).found (bits_of next) 0 w f) ∙ e))
    where
      ok_is : (x y : AccessUnit × ℕ) → ok_of x ≡ ok_of y → x ≡ y
      ok_is x y h = cc

  pub rate_told : (v : AccessUnit) (n rate : ℕ) (m : MajorSync) → (access_unit None).read (bits_of next) 0 ≡ Ok (v, n) → v.major ≡ Some m → rate ≡ rate_in_hertz m → IsRateOf next rate
  rate_told v n rate m e major is u f = is ∙ ap stream_rate (sym major) ∙ ap (λ (w : AccessUnit). stream_rate w.major) (sym (same_first u v n e f))

  pub none_without_major : (v : AccessUnit) (n : ℕ) → (access_unit None).read (bits_of next) 0 ≡ Ok (v, n) → v.major ≡ None → NoFirst next
  none_without_major v n e major u f =
      let some = first_major (bits_of next) u f in
      let none : is_some u.major ≡ false = ap (λ (w : AccessUnit). is_some w.major) (same_first u v n e f) ∙ ap is_some major in
      cc

  pub none_read : (b : Broken) → (access_unit None).read (bits_of next) 0 ≡ Err b → NoFirst next
  none_read b e u f = let there = (access_unit_is None).found (bits_of next) 0 u f in let both = sym there ∙ e in cc
