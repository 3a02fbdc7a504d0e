-- What the format of the highest presentation reads is a stream for it, and breaks where one for it breaks.
use Rattle.std.proofs.Common.{◌≡◌, ◌≢◌, ◌⊎◌, inl, inr, ℕ, ◌+◌, ◌<◌, Bool, false, List, [], ◌∷◌, length, Option, None, is_none, refl, sym, ap, subst, ◌∙◌, arith}
use Rattle.std.specs.Prelude.{min}
use Rattle.mlp_syntax.specs.declared.fault.Fault.{Fault}
use Rattle.mlp_syntax.specs.declared.major.MajorSync.{MajorSync}
use Rattle.mlp_syntax.specs.declared.segment.Segment.{Segment}
use Rattle.mlp_bits.specs.Bits.{bits_of}
use Rattle.mlp_layout.specs.Layout.{Found, tested}
use Rattle.mlp_layout.specs.Contents.{Contents, FoundIn, UnitFault}
use Rattle.mlp_layout.specs.Streams.{in_unit, IsNext, spelling_of, rest_of, OuterFails, UnitFails, left_after, Begins, Units, UnitsFail, Has}
use Rattle.mlp_layout.proofs.StreamLaws.{one_has}
use Rattle.mlp_unit.specs.AccessUnit.{AccessUnit, substreams_of}
use Rattle.mlp_unit.proofs.Reread.{parts_of}
use Rattle.mlp_contents.specs.Units.{Left, Unit_of, start, whole, after}
use Rattle.mlp_contents.proofs.FormatLaws.{whole_is}
use Rattle.mlp_retime.specs.Top.{highest, top}
use Rattle.mlp_retime.specs.Laws.{IsHighest}
use Rattle.mlp_retime.proofs.TopLaws.{contents_later}
use Rattle.mlp_retime.proofs.TopStreams.{after_later, sync_after, begins_later, some_sync, first_told, stream_top}
use Rattle.mlp_retimed.specs.Plays.{BreaksHighest}

module _ (k : ℕ) where
  -- ---- behind a first major sync that tells k

  contents_same : (left : Left) (o : AccessUnit) → is_none left.sync ≡ false → k ≡ highest left.sync → (whole k).contents left o ≡ top.contents left o
  contents_same left o synced e = ap (λ (n : ℕ). (whole n).contents left o) e ∙ sym (contents_later left o left.sync refl synced)

  after_same : (left : Left) (u : Unit_of) → is_none left.sync ≡ false → k ≡ highest left.sync → after k left u ≡ top.after left u
  after_same left u synced e = ap (λ (n : ℕ). after n left u) e ∙ sym (after_later left u left.sync refl synced)

  synced_on : (left : Left) (u : Unit_of) → is_none left.sync ≡ false → is_none (after k left u).sync ≡ false
  synced_on left u synced = ap (λ (s : Option MajorSync). is_none s) (sync_after k left u synced) ∙ synced

  told_on : (left : Left) (u : Unit_of) → is_none left.sync ≡ false → k ≡ highest left.sync → k ≡ highest (after k left u).sync
  told_on left u synced e = e ∙ ap highest (sym (sync_after k left u synced))

  next_back : (left : Left) (all : List Bool) (u : Unit_of) → is_none left.sync ≡ false → k ≡ highest left.sync → IsNext top left all u → IsNext (whole k) left all u
  next_back left all u synced e next = record {
    outer = next.outer;
    contents = subst (λ (c : Contents (List Segment)). FoundIn c (spelling_of top left u) u.contents) (sym (contents_same left u.outer synced e)) next.contents;
  }

  begins_back : (left : Left) (all : List Bool) (us : List Unit_of) (rest : List Bool) → is_none left.sync ≡ false → k ≡ highest left.sync → Begins top left all us rest → Begins (whole k) left all us rest
  unfolding Begins
  begins_back left all [] rest synced e b = b
  begins_back left all (u ∷ us) rest synced e b = (
    next_back left all u synced e b.0,
    begins_back (after k left u) (rest_of top left all u) us rest (synced_on left u synced) (told_on left u synced e)
        (subst (λ (l : Left). Begins top l (rest_of top left all u) us rest) (sym (after_same left u synced e)) b.1),
  )

  left_same : (left : Left) (us : List Unit_of) → is_none left.sync ≡ false → k ≡ highest left.sync → left_after top left us ≡ left_after (whole k) left us
  left_same left [] synced e = refl
  left_same left (u ∷ us) synced e =
      ap (λ (l : Left). left_after top l us) (sym (after_same left u synced e)) ∙ left_same (after k left u) us (synced_on left u synced) (told_on left u synced e)

  synced_behind : (left : Left) (us : List Unit_of) → is_none left.sync ≡ false → k ≡ highest left.sync → (is_none (left_after (whole k) left us).sync ≡ false) × (k ≡ highest (left_after (whole k) left us).sync)
  synced_behind left [] synced e = (synced, e)
  synced_behind left (u ∷ us) synced e = synced_behind (after k left u) us (synced_on left u synced) (told_on left u synced e)

  fails_back : (left : Left) (rest : List Bool) (d : UnitFault) → is_none left.sync ≡ false → k ≡ highest left.sync → UnitFails top left rest d → UnitFails (whole k) left rest d
  fails_back left rest d synced e (inl outer) = inl outer
  fails_back left rest d synced e (inr (o, found, inside)) =
      inr (o, found, subst (λ (c : Contents (List Segment)). c.Fails (((whole k).outer left).spelling o) d) (sym (contents_same left o synced e)) inside)

  fails_on : (left : Left) (rest : List Bool) (d : UnitFault) → is_none left.sync ≡ false → k ≡ highest left.sync → UnitFails (whole k) left rest d → UnitFails top left rest d
  fails_on left rest d synced e (inl outer) = inl outer
  fails_on left rest d synced e (inr (o, found, inside)) =
      inr (o, found, subst (λ (c : Contents (List Segment)). c.Fails (((whole k).outer left).spelling o) d) (contents_same left o synced e) inside)

  -- ---- from the first unit on

  module _ (u : Unit_of) (tells : highest u.outer.major ≡ k) (there : is_none u.outer.major ≡ false) where
    contents_first : top.contents (start 0) u.outer ≡ (whole k).contents (start k) u.outer
    contents_first = ap (λ (n : ℕ). (whole n).contents (start n) u.outer) tells

    after_first : top.after (start 0) u ≡ after k (start k) u
    after_first = ap (λ (n : ℕ). after n (start n) u) tells

    sync_first : (after k (start k) u).sync ≡ u.outer.major
    unfolding after
    sync_first = refl

    synced_first : is_none (after k (start k) u).sync ≡ false
    synced_first = ap (λ (s : Option MajorSync). is_none s) sync_first ∙ there

    told_behind : k ≡ highest (after k (start k) u).sync
    told_behind = sym tells ∙ ap highest (sym sync_first)

    pub first_back : (all : List Bool) (us : List Unit_of) (rest : List Bool) → Begins top (start 0) all (u ∷ us) rest → Begins (whole k) (start k) all (u ∷ us) rest
    unfolding Begins
    first_back all us rest b = (
      record { outer = b.0.outer; contents = subst (λ (c : Contents (List Segment)). FoundIn c (spelling_of top (start 0) u) u.contents) contents_first b.0.contents },
      begins_back (after k (start k) u) (rest_of top (start 0) all u) us rest synced_first told_behind (subst (λ (l : Left). Begins top l (rest_of top (start 0) all u) us rest) after_first b.1),
    )

    pub first_on : (all : List Bool) (us : List Unit_of) (rest : List Bool) → Begins (whole k) (start k) all (u ∷ us) rest → Begins top (start 0) all (u ∷ us) rest
    unfolding Begins
    first_on all us rest b = (
      record { outer = b.0.outer; contents = subst (λ (c : Contents (List Segment)). FoundIn c (spelling_of (whole k) (start k) u) u.contents) (sym contents_first) b.0.contents },
      subst (λ (l : Left). Begins top l (rest_of (whole k) (start k) all u) us rest) (sym after_first)
          (begins_later k (after k (start k) u) (rest_of (whole k) (start k) all u) us rest synced_first told_behind b.1),
    )

    left_first : (us : List Unit_of) → left_after top (start 0) (u ∷ us) ≡ left_after (whole k) (start k) (u ∷ us)
    left_first us = ap (λ (l : Left). left_after top l us) after_first ∙ left_same (after k (start k) u) us synced_first told_behind

    behind_first : (us : List Unit_of) → (is_none (left_after (whole k) (start k) (u ∷ us)).sync ≡ false) × (k ≡ highest (left_after (whole k) (start k) (u ∷ us)).sync)
    behind_first us = synced_behind (after k (start k) u) us synced_first told_behind

-- ---- the presentation that a first unit tells

found_first : (all : List Bool) (o : AccessUnit) → Found ((whole 0).outer (start 0)) all 0 o → 0 < substreams_of o.major
unfolding tested
found_first all o f =
    let p = parts_of None o (λ none. tt) f.fits f.meets.1 in
    omega (arith, p.count.some, p.asked.count)

pub record FirstTells (all : List Bool) (o : AccessUnit) : Type 0 where
  pub has : Has (whole (highest o.major)) (start (highest o.major)) all (highest o.major + 1)
  pub there : is_none o.major ≡ false

pub first_tells : (all : List Bool) (o : AccessUnit) → Found ((whole 0).outer (start 0)) all 0 o → FirstTells all o
first_tells all o f =
    let some = found_first all o f in
    let have : min 3 (substreams_of o.major) ≡ highest o.major + 1 = omega (arith, some) in
    record { has = (o, f, have); there = (some_sync (highest o.major) o.major have).1 }

-- ---- streams

pub units_highest : (bytes : List ℕ) (us : List Unit_of) → Units top (start 0) (bits_of bytes) us → (k : ℕ) × IsHighest k bytes us
unfolding Begins
units_highest bytes [] s = absurd (s.some s.begins)
units_highest bytes (u ∷ us) s =
    let all = bits_of bytes in
    let t = first_tells all u.outer s.begins.0.outer in
    let k = highest u.outer.major in (
      k,
      record {
        stream = record { units = record { begins = first_back k u refl t.there all us [] s.begins; some = s.some }; exists = (k + 1, t.has, omega arith) };
        told = t.has;
      },
    )

pub highest_units : (bytes : List ℕ) (us : List Unit_of) → ((k : ℕ) × IsHighest k bytes us) → Units top (start 0) (bits_of bytes) us
highest_units bytes us (k, h) = stream_top k (bits_of bytes) us h.told h.stream

-- ---- faults

pub fails_highest : (bytes : List ℕ) (fault : Fault) → UnitsFail top (start 0) (bits_of bytes) fault → BreaksHighest bytes fault
unfolding Begins
fails_highest bytes fault s = go s.before s.begins s.number s.fails
  where
    go : (before : List Unit_of) → Begins top (start 0) (bits_of bytes) before s.rest → length before ≡ fault.unit → UnitFails top (left_after top (start 0) before) s.rest (in_unit fault) → BreaksHighest bytes fault
    go [] b n (inl outer) = inl (sym n, subst (λ (t : List Bool). OuterFails (whole 0) (start 0) t (in_unit fault)) (sym b) outer)
    go [] b n (inr (o, found, inside)) =
        let here : Found ((whole 0).outer (start 0)) (bits_of bytes) 0 o = subst (λ (t : List Bool). Found ((whole 0).outer (start 0)) t 0 o) (sym b) found in
        let t = first_tells (bits_of bytes) o here in
        let k = highest o.major in
        inr (
          k,
          t.has,
          record {
            fails = record { before = []; rest = s.rest; begins = b; number = n; begun = s.begun; fails = inr (o, found, inside) };
            exists = inr (k + 1, t.has, omega arith);
          },
        )
    go (u ∷ us) b n f =
        let t = first_tells (bits_of bytes) u.outer b.0.outer in
        let k = highest u.outer.major in
        let at = behind_first k u refl t.there us in
        let left : Left = left_after (whole k) (start k) (u ∷ us) in
        let moved = subst (λ (l : Left). UnitFails top l s.rest (in_unit fault)) (left_first k u refl t.there us) f in
        inr (
          k,
          t.has,
          record {
            fails = record { before = u ∷ us; rest = s.rest; begins = first_back k u refl t.there (bits_of bytes) us s.rest b; number = n; begun = s.begun; fails = fails_back k left s.rest (in_unit fault) at.0 at.1 moved };
            exists = inr (k + 1, t.has, omega arith);
          },
        )

begun_at : (all : List Bool) → (all ≢ []) ⊎ (all ≡ [])
begun_at [] = inr refl
begun_at (b ∷ all) = inl (λ e. absurd cc)

pub highest_fails : (bytes : List ℕ) (fault : Fault) → BreaksHighest bytes fault → UnitsFail top (start 0) (bits_of bytes) fault
unfolding Begins
highest_fails bytes fault (inl (number, outer)) = record { before = []; rest = bits_of bytes; begins = refl; number = sym number; begun = begun_at (bits_of bytes); fails = inl outer }
highest_fails bytes fault (inr (k, has, breaks)) = record {
  before = breaks.fails.before;
  rest = breaks.fails.rest;
  begins = (go breaks.fails.before breaks.fails.begins breaks.fails.fails).0;
  number = breaks.fails.number;
  begun = breaks.fails.begun;
  fails = (go breaks.fails.before breaks.fails.begins breaks.fails.fails).1;
}
  where
    first_fails : (bits_of bytes) ≡ breaks.fails.rest → UnitFails (whole k) (start k) breaks.fails.rest (in_unit fault) → UnitFails top (start 0) breaks.fails.rest (in_unit fault)
    first_fails b (inl outer) = inl outer
    first_fails b (inr (o, found, inside)) =
        let here : Found ((whole k).outer (start k)) (bits_of bytes) 0 o = subst (λ (t : List Bool). Found ((whole k).outer (start k)) t 0 o) (sym b) found in
        let same = one_has (whole k) (whole_is k) (start k) (bits_of bytes) (min 3 (substreams_of o.major)) (k + 1) (o, here, refl) has in
        let t = some_sync k o.major same in
        let first = contents_first k (record { outer = o; contents = [] }) t.0 t.1 in
        inr (o, found, subst (λ (c : Contents (List Segment)). c.Fails (((whole k).outer (start k)).spelling o) (in_unit fault)) (sym first) inside)

    go : (before : List Unit_of) → Begins (whole k) (start k) (bits_of bytes) before breaks.fails.rest → UnitFails (whole k) (left_after (whole k) (start k) before) breaks.fails.rest (in_unit fault)
        → Begins top (start 0) (bits_of bytes) before breaks.fails.rest × UnitFails top (left_after top (start 0) before) breaks.fails.rest (in_unit fault)
    go [] b f = (b, first_fails b f)
    go (u ∷ us) b f =
        let t = first_told k (bits_of bytes) u has b.0 in
        let at = behind_first k u t.0 t.1 us in (
          first_on k u t.0 t.1 (bits_of bytes) us breaks.fails.rest b,
          subst (λ (l : Left). UnitFails top l breaks.fails.rest (in_unit fault)) (sym (left_first k u t.0 t.1 us)) (fails_on k (left_after (whole k) (start k) (u ∷ us)) breaks.fails.rest (in_unit fault) at.0 at.1 f),
        )
