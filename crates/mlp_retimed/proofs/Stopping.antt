-- Where retiming stops: at the first unit that breaks a rule, or for which there is no room.
use Rattle.std.proofs.Common.{inl, inr, ℕ, zero, suc, ◌%◌, ◌≤◌}
use Rattle.std.proofs.Common.{◌≡◌, ◌≢◌, Bool, true, false, List, [], ◌∷◌, ◌++◌, length, take, map, Result, Ok, Err, Option, None, is_none, refl, sym, ap, subst, ◌∙◌, arith, append_assoc, length-append}
use Rattle.std.specs.Prelude.{slice_index}
use Rattle.std.proofs.lemmas.List.{append-nil, map-append, length-map, take_all, take_at}
use Rattle.mlp_io.specs.Limit.{limit}
use Rattle.mlp_bits.specs.Bits.{bits_of}
use Rattle.mlp_syntax.specs.declared.fault.Fault.{Fault}
use Rattle.mlp_syntax.specs.declared.major.Kind.{Kind}
use Rattle.mlp_syntax.specs.declared.major.MajorSync.{MajorSync}
use Rattle.mlp_syntax.specs.declared.refusal.NoRoom.{NoRoom}
use Rattle.mlp_layout.specs.Streams.{Begins, UnitsFail}
use Rattle.mlp_unit.specs.AccessUnit.{in_force, stream_kind, stream_rate}
use Rattle.mlp_stream.specs.declared.refusal.Refusal.{Refusal}
use Rattle.mlp_stream.specs.declared.refusal.Refusal.TheVariants as refused
use Rattle.mlp_stream.specs.declared.stop.Stop.{Stop}
use Rattle.mlp_stream.specs.declared.stop.Stop.TheVariants.{Refused, ReadFault, WriteFault, TooLong}
use Rattle.mlp_answers.specs.Answers.{Gives, Answer, Answers, refusing, finished, unfinished, breaks, lacks, refuses, waits}
use Rattle.mlp_cut.specs.Cut.{unit_bytes, units_bytes, first_sync}
use Rattle.mlp_cut.proofs.CutLaws.{begins_split}
use Rattle.mlp_contents.specs.Units.{Unit_of, start}
use Rattle.mlp_fifo.specs.LeftFifo.{LeftFifo, Leaves, HasNone}
use Rattle.mlp_fifo.specs.Placed.{placed, with_time, placed_all, PlacedMeans, AllPlacedMean, LacksRoom}
use Rattle.mlp_fifo.specs.Schedule.{out_of}
use Rattle.mlp_fifo.proofs.PlacedLaws.{placed_means, all_placed}
use Rattle.mlp_retime.specs.Top.{highest, top}
use Rattle.mlp_retime.specs.Retimed.{length_of, retimed, retimed_from, pace_in}
use Rattle.mlp_retime.specs.Retiming.{fifo_for, behind_placed, fifo_behind, on_placed, retimed_out, sync_with, retiming}
use Rattle.mlp_retime.specs.SessionLaws.{top_is, top_bytes}
use Rattle.mlp_retime.proofs.Decoders.{in_force_kept}
use Rattle.mlp_retime.proofs.Pieces.{timed, placed_on, first_placed, sync_on, gives_all, stream_retimed}
use Rattle.mlp_retime.proofs.RetimeFollows.{fifo_more}
use Rattle.mlp_retime.proofs.TopStreams.{first_told}
use Rattle.mlp_retimed.specs.Stops.{BeginHighest, CameOut, EndsWell, StopsAtFault, StopsForRoom, IsFaultOrNoRoom}
use Rattle.mlp_retimed.proofs.TopBack.{first_tells, units_highest, first_back, first_on, fails_highest, highest_fails}

-- ---- what a unit gives

abbrev bytes_by : List ℕ → Result (List ℕ) Refusal
bytes_by xs = Ok xs

bytes_same : (xs ys : List ℕ) → bytes_by xs ≡ bytes_by ys → xs ≡ ys
bytes_same xs ys e = cc

record Gave (sync : Option MajorSync) (output : ℕ) (u : Unit_of) (x : Result (ℕ × LeftFifo) NoRoom) (xs : List ℕ) : Type 0 where
  r : ℕ × LeftFifo
  is : x ≡ Ok r
  bytes : xs ≡ unit_bytes (retimed sync (r.0 % 65536) (output % 65536) u)

gave : (sync : Option MajorSync) (output : ℕ) (u : Unit_of) (x : Result (ℕ × LeftFifo) NoRoom) (xs : List ℕ) → on_placed sync output u x ≡ Ok xs → Gave sync output u x xs
gave sync output u (Ok r) xs e = record { r = r; is = refl; bytes = sym (bytes_same (unit_bytes (retimed sync (r.0 % 65536) (output % 65536) u)) xs e) }
gave sync output u (Err b) xs e = absurd cc

abbrev refusal_by : Refusal → Result (List ℕ) Refusal
refusal_by r = Err r

refusal_same : (q r : Refusal) → refusal_by q ≡ refusal_by r → q ≡ r
refusal_same q r e = cc

record Declined (x : Result (ℕ × LeftFifo) NoRoom) (r : Refusal) : Type 0 where
  e : NoRoom
  is : x ≡ Err e
  refusal : r ≡ refused.NoRoom e

declined : (sync : Option MajorSync) (output : ℕ) (u : Unit_of) (x : Result (ℕ × LeftFifo) NoRoom) (r : Refusal) → on_placed sync output u x ≡ Err r → Declined x r
declined sync output u (Ok y) r e = absurd cc
declined sync output u (Err b) r e = record { e = b; is = refl; refusal = sym (refusal_same (refused.NoRoom b) r e) }

-- ---- what units give

-- the first one is placed, and then the others
placed_first : (fifo behind : LeftFifo) (b : ℕ) (bs : List ℕ) (t : ℕ) (ts : List ℕ) (l : LeftFifo) → placed fifo b ≡ Ok (t, behind) → placed_all bs behind ≡ Ok (ts, l) → placed_all (b ∷ bs) fifo ≡ Ok (t ∷ ts, l)
placed_first fifo behind b bs t ts l e f = ap (λ (x : Result (ℕ × LeftFifo) NoRoom). placed_on x bs) e ∙ ap (with_time t) f

record GivenBy (sync : Option MajorSync) (n : ℕ) (us : List Unit_of) (fifo : LeftFifo) (output : List ℕ) : Type 0 where
  times : List ℕ
  left : LeftFifo
  placed_is : placed_all (map length_of us) fifo ≡ Ok (times, left)
  output_is : output ≡ units_bytes (retimed_from sync (pace_in sync) n times us)

module _ (sync : Option MajorSync) (there : is_none sync ≡ false) where
  out_is : (before : List Unit_of) (u : Unit_of) (fifo : LeftFifo) → sync_with before u ≡ sync → fifo ≡ fifo_behind (fifo_for sync) (map length_of before)
      → retiming.out before u ≡ on_placed sync (out_of (pace_in sync) (length before)) u (placed fifo (length_of u))
  out_is before u fifo here is =
      ap (λ (s : Option MajorSync). retimed_out s (length before) (fifo_behind (fifo_for s) (map length_of before)) u) here ∙ ap (λ (b : LeftFifo). retimed_out sync (length before) b u) (sym is)

  behind_is : (before : List Unit_of) (u : Unit_of) (fifo : LeftFifo) (r : ℕ × LeftFifo) → fifo ≡ fifo_behind (fifo_for sync) (map length_of before) → placed fifo (length_of u) ≡ Ok r
      → r.1 ≡ fifo_behind (fifo_for sync) (map length_of (before ++ u ∷ []))
  behind_is before u fifo r is e =
      ap (behind_placed fifo) (sym e) ∙ ap (λ (b : LeftFifo). behind_placed b (placed b (length_of u))) is ∙ sym (fifo_more (fifo_for sync) (map length_of before) (length_of u))
      ∙ ap (fifo_behind (fifo_for sync)) (sym (map-append length_of before (u ∷ [])))

  sync_stays : (before : List Unit_of) (u v : Unit_of) → sync_with before u ≡ sync → sync_with (before ++ u ∷ []) v ≡ sync
  sync_stays before u v here = ap (λ (s : Option MajorSync). in_force s v.outer.major) (sync_on before u ∙ here) ∙ in_force_kept sync v.outer.major there

  given_back : (before us : List Unit_of) (fifo : LeftFifo) (output : List ℕ) → ((u : Unit_of) (rest : List Unit_of) → us ≡ u ∷ rest → sync_with before u ≡ sync)
      → fifo ≡ fifo_behind (fifo_for sync) (map length_of before) → Gives retiming before us output → GivenBy sync (length before) us fifo output
  unfolding Gives
  given_back before [] fifo output kept is g = record { times = []; left = fifo; placed_is = refl; output_is = g }
  given_back before (u ∷ us) fifo output kept is (xs, ys, out, more, joined) =
      let here = kept u us refl in
      let n = length before in
      let c = gave sync (out_of (pace_in sync) n) u (placed fifo (length_of u)) xs (sym (out_is before u fifo here is) ∙ out) in
      let later = given_back (before ++ u ∷ []) us c.r.1 ys (λ v rest e. sync_stays before u v here) (behind_is before u fifo c.r is c.is) more in
      let long : length (before ++ u ∷ []) ≡ suc n = omega (arith, length-append before (u ∷ [])) in
      record {
        times = c.r.0 ∷ later.times;
        left = later.left;
        placed_is = placed_first fifo c.r.1 (length_of u) (map length_of us) c.r.0 later.times later.left c.is later.placed_is;
        output_is = joined ∙ (λ i. c.bytes i ++ (later.output_is ∙ ap (λ (m : ℕ). units_bytes (retimed_from sync (pace_in sync) m later.times us)) long) i);
      }

-- ---- a unit more

abbrev pair_by : List ℕ × LeftFifo → Result (List ℕ × LeftFifo) NoRoom
pair_by x = Ok x

pair_same : (x y : List ℕ × LeftFifo) → pair_by x ≡ pair_by y → x ≡ y
pair_same x y e = cc

record PlacedLast (bs : List ℕ) (l : LeftFifo) (f : LeftFifo) : Type 0 where
  behind : l ≡ fifo_behind f bs
  fails : (b : ℕ) (e : NoRoom) → placed l b ≡ Err e → placed_all (bs ++ b ∷ []) f ≡ Err e

placed_last : (bs : List ℕ) (f l : LeftFifo) (ts : List ℕ) → placed_all bs f ≡ Ok (ts, l) → PlacedLast bs l f
placed_last [] f l ts e =
    let same : f ≡ l = ap (λ (x : List ℕ × LeftFifo). x.1) (pair_same ([], f) (ts, l) e) in
    record { behind = sym same; fails = λ b d h. ap (λ (x : Result (ℕ × LeftFifo) NoRoom). placed_on x []) (ap (λ (z : LeftFifo). placed z b) same ∙ h) }
placed_last (x ∷ bs) f l ts e =
    let a = first_placed (placed f x) bs ts l e in
    let t = timed a.r.0 (placed_all bs a.r.1) ts l a.on in
    let later = placed_last bs a.r.1 l t.later t.placed_is in
    record {
      behind = later.behind ∙ ap (λ (y : Result (ℕ × LeftFifo) NoRoom). fifo_behind (behind_placed f y) bs) (sym a.is);
      fails = λ b d h. ap (λ (y : Result (ℕ × LeftFifo) NoRoom). placed_on y (bs ++ b ∷ [])) a.is ∙ ap (with_time a.r.0) (later.fails b d h);
    }

-- ---- units that begin the bytes

first_none : (us : List Unit_of) → us ≢ [] → (all rest : List Bool) → Begins top (start 0) all us rest → is_none (first_sync us) ≡ false
unfolding Begins
first_none [] some all rest b = absurd (some refl)
first_none (u ∷ us) some all rest b = (first_tells all u.outer b.0.outer).there

begin_back : (bytes : List ℕ) (us : List Unit_of) (rest : List Bool) → Begins top (start 0) (bits_of bytes) us rest → us ≢ [] → BeginHighest bytes us
unfolding Begins
begin_back bytes [] rest b some = absurd (some refl)
begin_back bytes (u ∷ us) rest b some =
    let t = first_tells (bits_of bytes) u.outer b.0.outer in
    (highest u.outer.major, t.has, (rest, first_back (highest u.outer.major) u refl t.there (bits_of bytes) us rest b))

record BeginTop (bytes : List ℕ) (us : List Unit_of) : Type 0 where
  rest : List ℕ
  begins : Begins top (start 0) (bits_of bytes) us (bits_of rest)

begin_on : (bytes : List ℕ) (us : List Unit_of) → (us ≢ [] → BeginHighest bytes us) → BeginTop bytes us
unfolding Begins
begin_on bytes [] h = record { rest = bytes; begins = refl }
begin_on bytes (u ∷ us) h = go (h (λ e. cc))
  where
    go : BeginHighest bytes (u ∷ us) → BeginTop bytes (u ∷ us)
    go (k, has, (rest, b)) =
        let t = first_told k (bits_of bytes) u has b.0 in
        let whole_list = append-nil (u ∷ us) in
        let split = begins_split top top_is top_bytes (start 0) bytes (u ∷ us) [] rest
        (subst (λ (xs : List Unit_of). Begins top (start 0) (bits_of bytes) xs rest) (sym whole_list) (first_on k u t.0 t.1 (bits_of bytes) us rest b)) in
        record { rest = split.0; begins = split.1 }

-- ---- what came out

came_none : (output : List ℕ) → output ≡ [] → CameOut [] output
came_none output e = record {
  retimed = [];
  is_retimed = record { times = []; begin = (all_placed (stream_kind None) (stream_rate None) []).0; units_are = refl };
  output_is = e;
}

came_out : (us : List Unit_of) (all rest : List Bool) (output : List ℕ) → Begins top (start 0) all us rest → Gives retiming [] us output → CameOut us output
unfolding Gives
came_out [] all rest output b g = came_none output g
came_out (u ∷ us) all rest output b g =
    let sync = u.outer.major in
    let some : (let xs : List Unit_of = u ∷ us in xs ≢ []) = λ e. cc in
    let there = first_none (u ∷ us) some all rest b in
    let by = given_back sync there [] (u ∷ us) (fifo_for sync) output (λ v more e. ap (λ (xs : List Unit_of). first_sync xs) (sym e)) refl g in
    let means = subst (AllPlacedMean (stream_kind sync) (stream_rate sync) (map length_of (u ∷ us))) by.placed_is (all_placed (stream_kind sync) (stream_rate sync) (map length_of (u ∷ us))) in
    record {
      retimed = retimed_from sync (pace_in sync) 0 by.times (u ∷ us);
      is_retimed = record { times = by.times; begin = means.0; units_are = refl };
      output_is = by.output_is;
    }

gives_out : (us : List Unit_of) (all rest : List Bool) (output : List ℕ) → Begins top (start 0) all us rest → CameOut us output → Gives retiming [] us output
gives_out us all rest output b c =
    subst (Gives retiming [] us) (sym c.output_is)
    (gives_all us c.retimed (λ u more e. sym (ap (λ (xs : List Unit_of). is_none (first_sync xs)) e) ∙ first_none us (λ none. no_cons u more (sym none ∙ e)) all rest b) c.is_retimed)
  where
    no_cons : (u : Unit_of) (more : List Unit_of) → [] ≡ u ∷ more → ⊥
    no_cons u more e = cc

-- ---- a fault

fault_stops : (bytes : List ℕ) (us : List Unit_of) (rest : List ℕ) (fault : Fault) (output : List ℕ) → Begins top (start 0) (bits_of bytes) us (bits_of rest) → Gives retiming [] us output → length us ≡ fault.unit
    → UnitsFail top (start 0) (bits_of bytes) fault → StopsAtFault bytes fault output
fault_stops bytes us rest fault output b g count fails = record {
  breaks = fails_highest bytes fault fails;
  before = us;
  begin = begin_back bytes us (bits_of rest) b;
  count = count;
  came_out = came_out us (bits_of bytes) (bits_of rest) output b g;
}

pub stops_at_fault : (bytes : List ℕ) (fault : Fault) (output : List ℕ) → length bytes ≤ limit → StopsAtFault bytes fault output → Answer retiming bytes (refusing (refused.Fault fault)) output
stops_at_fault bytes fault output few s =
    let b = begin_on bytes s.before s.begin in
    record {
      within = λ le.
          breaks s.before b.rest fault
          (record { taken = record { begins = b.begins; there = λ some. tt }; gives = gives_out s.before (bits_of bytes) (bits_of b.rest) output b.begins s.came_out })
          s.count (highest_fails bytes fault s.breaks) (inl refl);
      past = λ long. absurd (omega (arith, long, few));
    }

-- ---- no room

-- units that can be placed, and one behind them
record Placing (us : List Unit_of) (u : Unit_of) (output : List ℕ) : Type 0 where
  left : LeftFifo
  last : PlacedLast (map length_of us) left (fifo_for (first_sync (us ++ u ∷ [])))
  leaves : let sync = first_sync (us ++ u ∷ []) in Leaves (stream_kind sync) (stream_rate sync) (map length_of us) left
  out : retiming.out us u ≡ on_placed (first_sync (us ++ u ∷ [])) (out_of (pace_in (first_sync (us ++ u ∷ []))) (length us)) u (placed left (length_of u))

some_more : (us : List Unit_of) (u : Unit_of) → us ++ u ∷ [] ≢ []
some_more [] u e = cc
some_more (v ∷ us) u e = cc

module _ (sync : Option MajorSync) (there : is_none sync ≡ false) where
  sync_at : (before us : List Unit_of) (u : Unit_of) → ((v : Unit_of) (rest : List Unit_of) → us ++ u ∷ [] ≡ v ∷ rest → sync_with before v ≡ sync) → sync_with (before ++ us) u ≡ sync
  sync_at before [] u kept = ap (λ (xs : List Unit_of). sync_with xs u) (append-nil before) ∙ kept u [] refl
  sync_at before (v ∷ us) u kept =
      ap (λ (xs : List Unit_of). sync_with xs u) (sym (append_assoc before (v ∷ []) us))
      ∙ sync_at (before ++ v ∷ []) us u (λ w rest e. sync_stays sync there before v w (kept v (us ++ u ∷ []) refl))

  first_kept : (us : List Unit_of) (v : Unit_of) (rest : List Unit_of) → first_sync us ≡ sync → us ≡ v ∷ rest → sync_with [] v ≡ sync
  first_kept us v rest first e = ap (λ (xs : List Unit_of). first_sync xs) (sym e) ∙ first

front_first : (us : List Unit_of) (u v : Unit_of) (rest : List Unit_of) → us ≡ v ∷ rest → v.outer.major ≡ first_sync (us ++ u ∷ [])
front_first us u v rest e = sym (ap (λ (xs : List Unit_of). first_sync (xs ++ u ∷ [])) e)

placing : (us : List Unit_of) (u : Unit_of) (all rest : List Bool) (output : List ℕ) → Begins top (start 0) all (us ++ u ∷ []) rest → Gives retiming [] us output → Placing us u output
placing us u all rest output b g =
    let sync = first_sync (us ++ u ∷ []) in
    let kind = stream_kind sync in
    let rate = stream_rate sync in
    let there = first_none (us ++ u ∷ []) (some_more us u) all rest b in
    let by = given_back sync there [] us (fifo_for sync) output (λ v more e. front_first us u v more e) refl g in
    let last = placed_last (map length_of us) (fifo_for sync) by.left by.times by.placed_is in
    let means = subst (AllPlacedMean kind rate (map length_of us)) by.placed_is (all_placed kind rate (map length_of us)) in
    let here = sync_at sync there [] us u (λ v more e. first_kept sync there (us ++ u ∷ []) v more refl e) in
    record { left = by.left; last = last; leaves = means.1; out = out_is sync there us u by.left here last.behind }

-- the refused unit is the last
record LastLacks (us : List Unit_of) (u : Unit_of) (e : NoRoom) : Type 0 where
  count : suc e.unit ≡ length (us ++ u ∷ [])
  lacks : let sync = first_sync (us ++ u ∷ []) in LacksRoom (stream_kind sync) (stream_rate sync) (map length_of (us ++ u ∷ [])) e

last_lacks : (us : List Unit_of) (u : Unit_of) (output : List ℕ) (p : Placing us u output) (e : NoRoom) → placed p.left (length_of u) ≡ Err e → LastLacks us u e
last_lacks us u output p e is =
    let sync = first_sync (us ++ u ∷ []) in
    let kind = stream_kind sync in
    let rate = stream_rate sync in
    let lengths = map length_of us ++ length_of u ∷ [] in
    let whole_list : map length_of (us ++ u ∷ []) ≡ lengths = map-append length_of us (u ∷ []) in
    let means = subst (PlacedMeans kind rate lengths) is (placed_means kind rate (map length_of us) p.left (length_of u) p.leaves) in
    let lacks = subst (AllPlacedMean kind rate lengths) (p.last.fails (length_of u) e is) (all_placed kind rate lengths) in
    record {
      count = means.1 ∙ ap (λ (xs : List ℕ). length xs) (sym whole_list) ∙ length-map (us ++ u ∷ []) length_of;
      lacks = subst (λ (xs : List ℕ). LacksRoom kind rate xs e) (sym whole_list) lacks;
    }

room_stops : (bytes : List ℕ) (us : List Unit_of) (more : List ℕ) (u : Unit_of) (r : Refusal) (output : List ℕ) → Begins top (start 0) (bits_of bytes) us (bits_of more) → Gives retiming [] us output
    → (behind : List ℕ) → Begins top (start 0) (bits_of bytes) (us ++ u ∷ []) (bits_of behind) → retiming.out us u ≡ Err r → (e : NoRoom) × (r ≡ refused.NoRoom e) × StopsForRoom bytes e output
room_stops bytes us more u r output b g behind c out =
    let sync = first_sync (us ++ u ∷ []) in
    let p = placing us u (bits_of bytes) (bits_of behind) output c g in
    let d = declined sync (out_of (pace_in sync) (length us)) u (placed p.left (length_of u)) r (sym p.out ∙ out) in
    let last = last_lacks us u output p d.e d.is in
    let front : take d.e.unit (us ++ u ∷ []) ≡ us = take_at us (u ∷ []) d.e.unit (omega (arith, last.count, length-append us (u ∷ []))) in (
      d.e,
      d.refusal,
      record {
        units = us ++ u ∷ [];
        begin = begin_back bytes (us ++ u ∷ []) (bits_of behind) c (some_more us u);
        count = sym last.count;
        lacks = last.lacks;
        came_out = subst (λ (xs : List Unit_of). CameOut xs output) (sym front) (came_out us (bits_of bytes) (bits_of more) output b g);
      },
    )

-- the last of several
split_last : (n : ℕ) (us : List Unit_of) → length us ≡ suc n → (u : Unit_of) × (us ≡ take n us ++ u ∷ [])
split_last n [] e = absurd (omega (arith, e))
split_last zero (u ∷ []) e = (u, refl)
split_last zero (u ∷ v ∷ us) e = absurd (omega (arith, e))
split_last (suc n) (u ∷ us) e = let later = split_last n us (omega (arith, e)) in (later.0, ap (λ (xs : List Unit_of). u ∷ xs) later.1)

same_room : (lengths : List ℕ) (kind : Kind) (rate : ℕ) (d e : NoRoom) → d.unit ≡ e.unit → LacksRoom kind rate lengths d → LacksRoom kind rate lengths e → d ≡ e
same_room lengths kind rate d e same a b =
    let bytes : d.bytes ≡ e.bytes = a.bytes_are ∙ ap (slice_index lengths) same ∙ sym b.bytes_are in
    λ i. record { unit = same i; bytes = bytes i }

module _ (bytes : List ℕ) (e : NoRoom) (output : List ℕ) (s : StopsForRoom bytes e output) where
  abbrev us : List Unit_of
  us = take e.unit s.units

  is_refused : (u : Unit_of) → s.units ≡ us ++ u ∷ [] → (p : Placing us u output) → (x : Result (ℕ × LeftFifo) NoRoom) → placed p.left (length_of u) ≡ x → x ≡ Err e
  is_refused u split p (Ok r) is =
      let sync = first_sync (us ++ u ∷ []) in
      let kind = stream_kind sync in
      let rate = stream_rate sync in
      let lengths = map length_of us ++ length_of u ∷ [] in
      let means = subst (PlacedMeans kind rate lengths) is (placed_means kind rate (map length_of us) p.left (length_of u) p.leaves) in
      let all_units = map length_of s.units in
      let same : lengths ≡ take (suc e.unit) all_units =
      sym (map-append length_of us (u ∷ [])) ∙ ap (map length_of) (sym split) ∙ sym (take_all (suc e.unit) all_units (omega (arith, s.count, length-map s.units length_of))) in
      let none : HasNone kind rate lengths =
      subst (HasNone kind rate) (sym same) (subst (λ (xs : List Unit_of). HasNone (stream_kind (first_sync xs)) (stream_rate (first_sync xs)) (take (suc e.unit) all_units)) split s.lacks.none) in
      absurd (none means.0.times means.0.earliest.is_schedule)
  is_refused u split p (Err d) is =
      let last = last_lacks us u output p d is in
      let here = subst (λ (xs : List Unit_of). LacksRoom (stream_kind (first_sync xs)) (stream_rate (first_sync xs)) (map length_of xs) e) split s.lacks in
      let sync = first_sync (us ++ u ∷ []) in
      let same : d.unit ≡ e.unit = omega (arith, last.count, s.count, ap (λ (xs : List Unit_of). length xs) split) in
      ap (λ (z : NoRoom). let x : Result (ℕ × LeftFifo) NoRoom = Err z in x) (same_room (map length_of (us ++ u ∷ [])) (stream_kind sync) (stream_rate sync) d e same last.lacks here)

  pub stops_for_room : length bytes ≤ limit → Answer retiming bytes (refusing (refused.NoRoom e)) output
  stops_for_room few =
      let last = split_last e.unit s.units s.count in
      let u = last.0 in
      let b = begin_on bytes s.units (λ some. s.begin) in
      let whole_list = subst (λ (xs : List Unit_of). Begins top (start 0) (bits_of bytes) xs (bits_of b.rest)) last.1 b.begins in
      let front = begins_split top top_is top_bytes (start 0) bytes us (u ∷ []) (bits_of b.rest) whole_list in
      let gives = gives_out us (bits_of bytes) (bits_of front.0) output front.1 s.came_out in
      let p = placing us u (bits_of bytes) (bits_of b.rest) output whole_list gives in
      let sync = first_sync (us ++ u ∷ []) in
      let out = p.out ∙ ap (on_placed sync (out_of (pace_in sync) (length us)) u) (is_refused u last.1 p (placed p.left (length_of u)) refl) in
      record {
        within = λ le.
            refuses us front.0 b.rest u (refused.NoRoom e) (record { taken = record { begins = front.1; there = λ some. tt }; gives = gives })
            (record { begins = whole_list; there = λ some. tt }) out;
        past = λ long. absurd (omega (arith, long, few));
      }

-- ---- each refusal is one of these

abbrev Stops : List ℕ → Result Unit Stop → List ℕ → Type 0
Stops bytes (Ok done) output = EndsWell bytes output
Stops bytes (Err (Refused (refused.Fault fault))) output = StopsAtFault bytes fault output
Stops bytes (Err (Refused (refused.Pcm fault))) output = ⊥
Stops bytes (Err (Refused (refused.NoRoom e))) output = StopsForRoom bytes e output
Stops bytes (Err (Refused (refused.NoPresentation have))) output = ⊥
Stops bytes (Err (Refused (refused.LowBits frame))) output = ⊥
Stops bytes (Err (Refused (refused.NoRestart unit))) output = ⊥
Stops bytes (Err (Refused (refused.NotThere units))) output = ⊥
Stops bytes (Err ReadFault) output = Unit {0}
Stops bytes (Err WriteFault) output = Unit {0}
Stops bytes (Err TooLong) output = Unit {0}

stops_by : (bytes : List ℕ) (end : Result Unit Stop) (output : List ℕ) → Answers retiming true bytes end output → Stops bytes end output
stops_by bytes end output (finished us xs ys all units gives out e) =
    let h = units_highest bytes us units in
    let whole_list : output ≡ xs = e ∙ ap (λ (zs : List ℕ). xs ++ zs) (bytes_same ys [] out) ∙ append-nil xs in
    record {
      k = h.0;
      units = us;
      highest = h.1;
      came_out = subst (CameOut us) (sym whole_list) (came_out us (bits_of bytes) [] xs units.begins gives);
    }
stops_by bytes end output (unfinished us r all units gives out) = absurd (let no : (let x : Result (List ℕ) Refusal = Err r in x) ≡ Ok [] = out in cc)
stops_by bytes end output (breaks us rest fault worked n fails d) = fault_stops bytes us rest fault output worked.taken.begins worked.gives n fails
stops_by bytes end output (lacks have d decide_is) = absurd d
stops_by bytes end output (refuses us rest more u r worked taken out) =
    let s = room_stops bytes us rest u r output worked.taken.begins worked.gives more taken.begins out in
    subst (λ (q : Refusal). Stops bytes (Err (Refused q)) output) (sym s.1) s.2
stops_by bytes end output (waits us rest on worked opens) = tt

pub ended_well : (bytes output : List ℕ) → length bytes ≤ limit → Answer retiming bytes (Ok tt) output → EndsWell bytes output
ended_well bytes output few a = stops_by bytes (Ok tt) output (a.within few)

pub ends_well : (bytes output : List ℕ) → length bytes ≤ limit → EndsWell bytes output → Answer retiming bytes (Ok tt) output
ends_well bytes output few e =
    subst (Answer retiming bytes (Ok tt)) (sym e.came_out.output_is) (stream_retimed e.k bytes e.units e.came_out.retimed few e.highest e.came_out.is_retimed)

pub was_fault : (bytes : List ℕ) (fault : Fault) (output : List ℕ) → length bytes ≤ limit → Answer retiming bytes (refusing (refused.Fault fault)) output → StopsAtFault bytes fault output
was_fault bytes fault output few a = stops_by bytes (refusing (refused.Fault fault)) output (a.within few)

pub was_for_room : (bytes : List ℕ) (e : NoRoom) (output : List ℕ) → length bytes ≤ limit → Answer retiming bytes (refusing (refused.NoRoom e)) output → StopsForRoom bytes e output
was_for_room bytes e output few a = stops_by bytes (refusing (refused.NoRoom e)) output (a.within few)

one_of_both : (bytes : List ℕ) (r : Refusal) (output : List ℕ) → Stops bytes (Err (Refused r)) output → IsFaultOrNoRoom r
one_of_both bytes (refused.Fault fault) output s = inl (fault, refl)
one_of_both bytes (refused.Pcm fault) output s = absurd s
one_of_both bytes (refused.NoRoom e) output s = inr (e, refl)
one_of_both bytes (refused.NoPresentation have) output s = absurd s
one_of_both bytes (refused.LowBits frame) output s = absurd s
one_of_both bytes (refused.NoRestart unit) output s = absurd s
one_of_both bytes (refused.NotThere units) output s = absurd s

pub fault_or_room : (bytes : List ℕ) (r : Refusal) (output : List ℕ) → length bytes ≤ limit → Answer retiming bytes (refusing r) output → IsFaultOrNoRoom r
fault_or_room bytes r output few a = one_of_both bytes r output (stops_by bytes (refusing r) output (a.within few))
