-- What comes out of a stream: its units, with the times of their earliest schedule.
use Rattle.std.proofs.Common.{◌≡◌, ℕ, suc, ◌%◌, ◌<◌, ◌≤◌, Bool, false, List, [], ◌∷◌, ◌++◌, length, map, Result, Ok, Err, Option, None, is_none, refl, sym, ap, subst, ◌∙◌, arith, length-append}
use Rattle.std.specs.Prelude.{slice_index, IsOk}
use Rattle.std.proofs.lemmas.List.{append-nil, map-append}
use Rattle.std.proofs.lemmas.List.Concat.{flat_map-cons}
use Rattle.mlp_syntax.specs.declared.major.Kind.{Kind}
use Rattle.mlp_syntax.specs.declared.major.MajorSync.{MajorSync}
use Rattle.mlp_syntax.specs.declared.refusal.NoRoom.{NoRoom}
use Rattle.mlp_io.specs.Limit.{limit}
use Rattle.mlp_bits.specs.Bits.{bits_of}
use Rattle.mlp_layout.specs.Layout.{Found, tested}
use Rattle.mlp_layout.specs.Streams.{Begins, left_after}
use Rattle.mlp_unit.specs.AccessUnit.{access_unit, in_force, stream_kind, stream_rate}
use Rattle.mlp_fifo.specs.Schedule.{IsSchedule}
use Rattle.mlp_fifo.specs.Pace.{pace_of}
use Rattle.mlp_fifo.specs.LeftFifo.{LeftFifo}
use Rattle.mlp_fifo.specs.Placed.{placed, emptied, with_time, placed_all, BeginAt, AllPlacedMean}
use Rattle.mlp_fifo.proofs.PlacedLaws.{all_placed, all_have_room}
use Rattle.mlp_fifo.proofs.LawLemmas.{only}
use Rattle.mlp_cut.specs.Cut.{unit_bytes, units_bytes, first_sync}
use Rattle.mlp_answers.specs.Answers.{Gives, Answer, finished}
use Rattle.mlp_contents.specs.Units.{Unit_of, start, whole, after}
use Rattle.mlp_samples.proofs.SyncLaws.{unit_synced}
use Rattle.mlp_retime.specs.Top.{top}
use Rattle.mlp_retime.specs.Retimed.{length_of, retimed_unit, retimed_from, pace_in, IsRetimed}
use Rattle.mlp_retime.specs.Retiming.{fifo_for, behind_placed, fifo_behind, on_placed, retimed_out, sync_with, retiming}
use Rattle.mlp_retime.specs.Laws.{IsHighest}
use Rattle.mlp_retime.proofs.Decoders.{some_none, in_force_kept}
use Rattle.mlp_retime.proofs.Rewriting.{begun_sync}
use Rattle.mlp_retime.proofs.RetimeFollows.{fifo_more, left_on}
use Rattle.mlp_retime.proofs.TopStreams.{stream_top}

-- ---- placing one more

pub ok_times : List ℕ × LeftFifo → Result (List ℕ × LeftFifo) NoRoom
ok_times x = Ok x

pub times_is : (x y : List ℕ × LeftFifo) → ok_times x ≡ ok_times y → x ≡ y
unfolding ok_times
times_is x y e = cc

pub record Timed (t : ℕ) (r : Result (List ℕ × LeftFifo) NoRoom) (times : List ℕ) (l : LeftFifo) : Type 0 where
  pub later : List ℕ
  pub placed_is : r ≡ Ok (later, l)
  pub times_are : times ≡ t ∷ later

pub timed : (t : ℕ) (r : Result (List ℕ × LeftFifo) NoRoom) (times : List ℕ) (l : LeftFifo) → with_time t r ≡ Ok (times, l) → Timed t r times l
unfolding ok_times
timed t (Ok r) times l e =
    let same = times_is (t ∷ r.0, r.1) (times, l) e in
    record {
      later = r.0;
      placed_is = ap (λ (z : LeftFifo). ok_times (r.0, z)) (ap (λ (x : List ℕ × LeftFifo). x.1) same);
      times_are = sym (ap (λ (x : List ℕ × LeftFifo). x.0) same);
    }
timed t (Err b) times l e = absurd cc

abbrev pub placed_on : Result (ℕ × LeftFifo) NoRoom → List ℕ → Result (List ℕ × LeftFifo) NoRoom
placed_on x bs = elim x [ Ok r ↦ with_time r.0 (placed_all bs r.1) | Err e ↦ Err e ]

pub record First (x : Result (ℕ × LeftFifo) NoRoom) (bs times : List ℕ) (l : LeftFifo) : Type 0 where
  pub r : ℕ × LeftFifo
  pub is : x ≡ Ok r
  pub on : with_time r.0 (placed_all bs r.1) ≡ Ok (times, l)

pub first_placed : (x : Result (ℕ × LeftFifo) NoRoom) (bs times : List ℕ) (l : LeftFifo) → placed_on x bs ≡ Ok (times, l) → First x bs times l
first_placed (Ok r) bs times l e = record { r = r; is = refl; on = e }
first_placed (Err b) bs times l e = absurd cc

-- ---- the first major sync stays

pub sync_on : (before : List Unit_of) (u : Unit_of) → (left_after top (start 0) (before ++ u ∷ [])).sync ≡ sync_with before u
unfolding after
sync_on before u =
    let left = left_after top (start 0) before in
    ap (λ l. l.sync) (left_on before u) ∙ ap (λ (s : Option MajorSync). in_force s u.outer.major) (begun_sync _ left left.sync refl)

pub none_given : (sync : Option MajorSync) (n : ℕ) (times : List ℕ) → units_bytes (retimed_from sync (pace_in sync) n times []) ≡ []
none_given sync n [] = refl
none_given sync n (t ∷ times) = refl

module _ (sync : Option MajorSync) (there : is_none sync ≡ false) where
  pub given_from : (before us : List Unit_of) (times : List ℕ) (fifo l : LeftFifo) → ((u : Unit_of) (rest : List Unit_of) → us ≡ u ∷ rest → sync_with before u ≡ sync)
      → fifo ≡ fifo_behind (fifo_for sync) (map length_of before) → placed_all (map length_of us) fifo ≡ Ok (times, l)
      → Gives retiming before us (units_bytes (retimed_from sync (pace_in sync) (length before) times us))
  unfolding Gives
  given_from before [] times fifo l kept is e = none_given sync (length before) times
  given_from before (u ∷ us) times fifo l kept is e =
      let f = first_placed (placed fifo (length_of u)) (map length_of us) times l e in
      let t = timed f.r.0 (placed_all (map length_of us) f.r.1) times l f.on in
      let n = length before in
      let here = kept u us refl in
      let w = retimed_unit sync (f.r.0 % 65536) (_ % 65536) u in
      let out : retiming.out before u ≡ Ok (unit_bytes w.outer) =
      ap (λ (s : Option MajorSync). retimed_out s n (fifo_behind (fifo_for s) (map length_of before)) u) here ∙ ap (λ (b : LeftFifo). retimed_out sync n b u) (sym is)
      ∙ ap (on_placed sync _ u) f.is in
      let behind : f.r.1 ≡ fifo_behind (fifo_for sync) (map length_of (before ++ u ∷ [])) =
      ap (behind_placed fifo) (sym f.is) ∙ ap (λ (b : LeftFifo). behind_placed b (placed b (length_of u))) is ∙ sym (fifo_more (fifo_for sync) (map length_of before) (length_of u))
      ∙ ap (fifo_behind (fifo_for sync)) (sym (map-append length_of before (u ∷ []))) in
      let stays = λ (v : Unit_of) (rest : List Unit_of) (e : us ≡ v ∷ rest). ap (λ (s : Option MajorSync). in_force s v.outer.major) (sync_on before u ∙ here) ∙ in_force_kept sync v.outer.major there in
      let later = given_from (before ++ u ∷ []) us t.later f.r.1 l stays behind t.placed_is in
      let long : length (before ++ u ∷ []) ≡ suc n = omega (arith, length-append before (u ∷ [])) in (
        unit_bytes w.outer,
        units_bytes (retimed_from sync (pace_in sync) (suc n) t.later us),
        out,
        subst (λ (m : ℕ). Gives retiming (before ++ u ∷ []) us (units_bytes (retimed_from sync (pace_in sync) m t.later us))) long later,
        ap (λ (ts : List ℕ). units_bytes (retimed_from sync (pace_in sync) n ts (u ∷ us))) t.times_are ∙ flat_map-cons (λ (v : Unit_of). unit_bytes v.outer) w (retimed_from sync (pace_in sync) (suc n) t.later us),
      )

-- ---- the times of the earliest schedule

same_list : (xs ys : List ℕ) → length xs ≡ length ys → ((i : ℕ) → i < length xs → slice_index xs i ≡ slice_index ys i) → xs ≡ ys
same_list [] [] n at = refl
same_list [] (y ∷ ys) n at = absurd (omega arith)
same_list (x ∷ xs) [] n at = absurd (omega arith)
same_list (x ∷ xs) (y ∷ ys) n at = λ i. at 0 (omega arith) i ∷ same_list xs ys (omega arith) (λ j lt. at (suc j) (omega arith)) i

pub record AllPlaced (kind : Kind) (rate : ℕ) (lengths times : List ℕ) : Type 0 where
  pub left : LeftFifo
  pub is : placed_all lengths (emptied kind rate) ≡ Ok (times, left)

pub placed_at : (kind : Kind) (rate : ℕ) (lengths times : List ℕ) → BeginAt kind rate lengths times → AllPlaced kind rate lengths times
unfolding ok_times
placed_at kind rate lengths times b = by_case (placed_all lengths (emptied kind rate)) refl (all_have_room kind rate lengths (slice_index times) b.earliest.is_schedule)
  where
    by_case : (x : Result (List ℕ × LeftFifo) NoRoom) → placed_all lengths (emptied kind rate) ≡ x → IsOk x → AllPlaced kind rate lengths times
    by_case (Ok r) e some =
        let m = subst (AllPlacedMean kind rate lengths) e (all_placed kind rate lengths) in
        let same : r.0 ≡ times = same_list r.0 times (m.0.as_many ∙ sym b.as_many)
        (λ i lt. only (pace_of kind rate) (slice_index lengths) (slice_index r.0) (slice_index times) (length lengths) m.0.earliest b.earliest i (omega (arith, lt, m.0.as_many))) in
        record { left = r.1; is = e ∙ ap (λ (ts : List ℕ). ok_times (ts, r.1)) same }
    by_case (Err b) e some = absurd cc

-- ---- a stream

first_there : (k : ℕ) (all : List Bool) (us : List Unit_of) → Begins (whole k) (start k) all us [] → (u : Unit_of) (rest : List Unit_of) → us ≡ u ∷ rest → is_none u.outer.major ≡ false
unfolding Begins tested
first_there k all [] b u rest e = absurd cc
first_there k all (v ∷ vs) b u rest e =
    let f : Found (access_unit None) all 0 v.outer = record { fits = b.0.outer.fits; meets = b.0.outer.meets.1; stands = b.0.outer.stands } in
    ap (λ (xs : List Unit_of). is_none (first_sync xs)) (sym e) ∙ some_none v.outer.major (unit_synced None all v.outer tt f)

pub gives_all : (us vs : List Unit_of) → ((u : Unit_of) (rest : List Unit_of) → us ≡ u ∷ rest → is_none u.outer.major ≡ false) → IsRetimed us vs → Gives retiming [] us (units_bytes vs)
unfolding Gives
gives_all [] vs some r = ap units_bytes r.units_are ∙ none_given None 0 r.times
gives_all (u ∷ us) vs some r =
    let sync = u.outer.major in
    let p = placed_at (stream_kind sync) (stream_rate sync) (map length_of (u ∷ us)) r.times r.begin in
    subst (λ (ws : List Unit_of). Gives retiming [] (u ∷ us) (units_bytes ws)) (sym r.units_are)
    (given_from sync (some u us refl) [] (u ∷ us) r.times (fifo_for sync) p.left (λ v rest e. ap (λ (xs : List Unit_of). first_sync xs) (sym e)) refl p.is)

pub stream_retimed : (k : ℕ) (bytes : List ℕ) (us vs : List Unit_of) → length bytes ≤ limit → IsHighest k bytes us → IsRetimed us vs → Answer retiming bytes (Ok tt) (units_bytes vs)
stream_retimed k bytes us vs few h r = record {
  within = λ le.
      finished us (units_bytes vs) [] refl (stream_top k (bits_of bytes) us h.told h.stream) (gives_all us vs (first_there k (bits_of bytes) us h.stream.units.begins) r) refl (sym (append-nil (units_bytes vs)));
  past = λ long. absurd (omega (arith, long, few));
}

-- where the lengths have a schedule there are such units
retimed_by : (us : List Unit_of) (x : Result (List ℕ × LeftFifo) NoRoom) → IsOk x → AllPlacedMean (stream_kind (first_sync us)) (stream_rate (first_sync us)) (map length_of us) x → (vs : List Unit_of) × IsRetimed us vs
retimed_by us (Ok r) some m = (retimed_from (first_sync us) (pace_in (first_sync us)) 0 r.0 us, record { times = r.0; begin = m.0; units_are = refl })
retimed_by us (Err b) some m = absurd cc

pub some_retimed : (us : List Unit_of) (times : ℕ → ℕ) → IsSchedule (pace_in (first_sync us)) (slice_index (map length_of us)) times (length (map length_of us)) → (vs : List Unit_of) × IsRetimed us vs
some_retimed us times q =
    let kind = stream_kind (first_sync us) in
    let rate = stream_rate (first_sync us) in
    let lengths = map length_of us in
    retimed_by us (placed_all lengths (emptied kind rate)) (all_have_room kind rate lengths times q) (all_placed kind rate lengths)
