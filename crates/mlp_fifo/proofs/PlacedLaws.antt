-- What placing means for the units so far.
use Rattle.std.proofs.Common.{◌≡◌, ℕ, zero, suc, ◌+◌, ◌-◌, ◌*◌, ◌<◌, ◌≤◌, List, [], ◌∷◌, ◌++◌, length, take, min, cond, ℤ, pos, Result, Ok, Err, arith, refl, sym, ◌∙◌, ap, subst}
use Rattle.std.specs.Prelude.{IsOk, unsigned_abs}
use Rattle.std.proofs.Math.Decide.{dec_lt}
use Rattle.std.proofs.lemmas.Bool.{lt-ltb, le-ltb}
use Rattle.std.proofs.lemmas.Nat.{mul-le}
use Rattle.std.proofs.lemmas.List.{append-nil, append_assoc, get_or_append_left, get_or_push, length_push, length-append, length-take-le, get_or-take, take-append-le, take_all}
use Rattle.circular_buffer.specs.Buffer.{keep_last}
use Rattle.mlp_syntax.specs.declared.major.Kind.{Kind}
use Rattle.mlp_syntax.specs.declared.refusal.NoRoom.{NoRoom}
use Rattle.mlp_fifo.specs.declared.pace.Pace.{Pace}
use Rattle.mlp_fifo.specs.Pace.{pace_of}
use Rattle.mlp_fifo.specs.Schedule.{out_of, duration_of, IsSchedule, IsEarliest}
use Rattle.mlp_fifo.specs.LeftFifo.{LeftFifo, Leaves, LastBegins, HasNone}
use Rattle.mlp_fifo.specs.Placed.{begins, with_unit, placed, answered, emptied, with_time, placed_all, BeginAt, LacksRoom, PlacedMeans, AllPlacedMean}
use Rattle.mlp_fifo.proofs.Shown.{index}
use Rattle.mlp_fifo.proofs.Schedules.{fewer, same_schedule, same_earliest}
use Rattle.mlp_fifo.proofs.Next.{IsNext}
use Rattle.mlp_fifo.proofs.Begins.{begins_next}
use Rattle.mlp_fifo.proofs.Keeps.{kept_length}
use Rattle.mlp_fifo.proofs.Places.{shown, last_is, with_next, with_before, with_last, placed_next, refused_next, last_time, last_finish, kept_push, length_more}
use Rattle.mlp_fifo.proofs.LawLemmas.{none_earliest, only}

-- ---- the two answers

abbrev pub finish_after : LeftFifo → ℕ → ℕ
finish_after left bytes = begins left bytes + duration_of (pace_of left.kind left.rate) bytes

abbrev refusal : LeftFifo → ℕ → Result (ℕ × LeftFifo) NoRoom
refusal left bytes = Err (record { unit = left.count; bytes = bytes })

abbrev placing : LeftFifo → ℕ → Result (ℕ × LeftFifo) NoRoom
placing left bytes = Ok (begins left bytes, with_unit left bytes (finish_after left bytes))

pub placed_late : (left : LeftFifo) (bytes : ℕ) → out_of (pace_of left.kind left.rate) left.count < finish_after left bytes → placed left bytes ≡ refusal left bytes
unfolding placed
placed_late left bytes h = ap (λ c. cond c (refusal left bytes) (placing left bytes)) (lt-ltb (out_of (pace_of left.kind left.rate) left.count) (finish_after left bytes) h)

pub placed_there : (left : LeftFifo) (bytes : ℕ) → finish_after left bytes ≤ out_of (pace_of left.kind left.rate) left.count → placed left bytes ≡ placing left bytes
unfolding placed
placed_there left bytes h = ap (λ c. cond c (refusal left bytes) (placing left bytes)) (le-ltb (out_of (pace_of left.kind left.rate) left.count) (finish_after left bytes) h)

pub fifo_is : (a b : LeftFifo) → a.kind ≡ b.kind → a.rate ≡ b.rate → a.count ≡ b.count → a.finish ≡ b.finish → a.latest ≡ b.latest → a ≡ b
fifo_is a b k r c f l =
    let mk : Kind → ℕ → ℕ → ℕ → List ℕ → LeftFifo = λ kind rate count finish latest. record { kind = kind; rate = rate; count = count; finish = finish; latest = latest } in
    ap (λ x. mk x a.rate a.count a.finish a.latest) k
    ∙ ap (λ x. mk b.kind x a.count a.finish a.latest) r
    ∙ ap (λ x. mk b.kind b.rate x a.finish a.latest) c
    ∙ ap (λ x. mk b.kind b.rate b.count x a.latest) f
    ∙ ap (λ x. mk b.kind b.rate b.count b.finish x) l

pub answered_there : (left new : LeftFifo) (bytes : ℕ) (t : ℤ) → finish_after left bytes ≤ out_of (pace_of left.kind left.rate) left.count → t ≡ pos (begins left bytes) → new ≡ with_unit left bytes (finish_after left bytes)
    → placed left bytes ≡ answered (Ok t) new
answered_there left new bytes t h e n =
    placed_there left bytes h ∙ ap (λ m. answered (Ok (pos (begins left bytes))) m) (sym n) ∙ ap (λ z. answered (Ok z) new) (sym e)

-- ---- one unit more

latency_is : (kind : Kind) (rate : ℕ) → (pace_of kind rate).latency ≡ 90
unfolding pace_of
latency_is kind rate = refl

-- all units before the latest 91 have been output at a unit's turn
pub turn_out : (kind : Kind) (rate n i : ℕ) → i < n - min 91 n → out_of (pace_of kind rate) i ≤ n * (pace_of kind rate).unit
unfolding out_of
turn_out kind rate n i h = let l = latency_is kind rate in mul-le ((pace_of kind rate).latency + i) (pace_of kind rate).unit n (pace_of kind rate).unit (omega arith) (omega arith)

pub none_leaves : (kind : Kind) (rate : ℕ) → Leaves kind rate [] (emptied kind rate)
none_leaves kind rate = record {
  kind_is = refl;
  rate_is = refl;
  count_is = refl;
  latest_is = refl;
  times = λ i. 0;
  earliest = none_earliest (pace_of kind rate) (index []);
  finish_is = refl;
}

module _ (kind : Kind) (rate : ℕ) (lengths : List ℕ) (left : LeftFifo) (bytes : ℕ) (h : Leaves kind rate lengths left) where
  pace_is : pace_of left.kind left.rate ≡ pace_of kind rate
  pace_is = ap (λ k. pace_of k left.rate) h.kind_is ∙ ap (pace_of kind) h.rate_is

  latest_length : length left.latest ≡ min 91 left.count
  latest_length = let e = ap length h.latest_is ∙ kept_length lengths in omega (arith, e, h.count_is)

  next_is : IsNext (pace_of kind rate) (index (lengths ++ bytes ∷ [])) left.count left.finish (begins left bytes)
  next_is = subst (λ p. IsNext p (index (lengths ++ bytes ∷ [])) left.count left.finish (begins left bytes)) pace_is
      (begins_next left (index (lengths ++ bytes ∷ [])) bytes (shown lengths left.latest bytes left.count h.latest_is h.count_is) (last_is lengths bytes left.count h.count_is)
      (omega (arith, latest_length)) (λ i l. omega (arith, turn_out left.kind left.rate left.count i (omega (arith, latest_length)))))

  finish_is : finish_after left bytes ≡ begins left bytes + duration_of (pace_of kind rate) bytes
  finish_is = ap (λ p. begins left bytes + duration_of p bytes) pace_is

  out_is : out_of (pace_of left.kind left.rate) left.count ≡ out_of (pace_of kind rate) left.count
  out_is = ap (λ p. out_of p left.count) pace_is

  there : finish_after left bytes ≤ out_of (pace_of left.kind left.rate) left.count → begins left bytes + duration_of (pace_of kind rate) bytes ≤ out_of (pace_of kind rate) left.count
  there l = omega (arith, finish_is, out_is)

  earliest_then : finish_after left bytes ≤ out_of (pace_of left.kind left.rate) left.count
      → IsEarliest (pace_of kind rate) (index (lengths ++ bytes ∷ [])) (with_next h.times (length lengths) (begins left bytes)) (length (lengths ++ bytes ∷ []))
  earliest_then l = placed_next (pace_of kind rate) lengths h.times bytes left.count left.finish (begins left bytes) h.count_is h.finish_is h.earliest next_is (there l)

  last_begins : finish_after left bytes ≤ out_of (pace_of left.kind left.rate) left.count → LastBegins kind rate (lengths ++ bytes ∷ []) (pos (begins left bytes))
  last_begins l = record {
    times = with_next h.times (length lengths) (begins left bytes);
    earliest = earliest_then l;
    time_is = ap pos (sym (last_time lengths h.times bytes (begins left bytes)));
  }

  has_none : out_of (pace_of left.kind left.rate) left.count < finish_after left bytes → HasNone kind rate (lengths ++ bytes ∷ [])
  has_none l = refused_next (pace_of kind rate) lengths h.times bytes left.count left.finish (begins left bytes) h.count_is h.finish_is h.earliest next_is (omega (arith, finish_is, out_is))

  leaves_then : finish_after left bytes ≤ out_of (pace_of left.kind left.rate) left.count → Leaves kind rate (lengths ++ bytes ∷ []) (with_unit left bytes (finish_after left bytes))
  leaves_then l = record {
    kind_is = h.kind_is;
    rate_is = h.rate_is;
    count_is = ap (λ m. m + 1) h.count_is ∙ sym (length_more lengths bytes);
    latest_is = ap (λ xs. keep_last 91 (xs ++ bytes ∷ [])) h.latest_is ∙ kept_push lengths bytes;
    times = with_next h.times (length lengths) (begins left bytes);
    earliest = earliest_then l;
    finish_is = finish_is ∙ last_finish (pace_of kind rate) lengths h.times bytes (begins left bytes);
  }

  pub placed_means : PlacedMeans kind rate (lengths ++ bytes ∷ []) (placed left bytes)
  placed_means = elim (dec_lt (out_of (pace_of left.kind left.rate) left.count) (finish_after left bytes)) [
    | yes l ↦ subst (PlacedMeans kind rate (lengths ++ bytes ∷ [])) (sym (placed_late left bytes l)) (has_none l, omega (arith, length_more lengths bytes, h.count_is))
    | no l ↦ subst (PlacedMeans kind rate (lengths ++ bytes ∷ [])) (sym (placed_there left bytes (omega arith))) (last_begins (omega arith), leaves_then (omega arith))
  ]

-- ---- what a placing object answers

pos_abs : (t : ℤ) (n : ℕ) → t ≡ pos n → pos (unsigned_abs t) ≡ t
pos_abs t n e = subst (λ z. pos (unsigned_abs z) ≡ z) (sym e) refl

pub there_means : (kind : Kind) (rate : ℕ) (lengths : List ℕ) (left new : LeftFifo) (bytes : ℕ) (t : ℤ) → Leaves kind rate lengths left → placed left bytes ≡ answered (Ok t) new → t ≡ pos (begins left bytes)
    → LastBegins kind rate (lengths ++ bytes ∷ []) t × Leaves kind rate (lengths ++ bytes ∷ []) new
there_means kind rate lengths left new bytes t h e time =
    let m = subst (PlacedMeans kind rate (lengths ++ bytes ∷ [])) e (placed_means kind rate lengths left bytes h) in
    (subst (LastBegins kind rate (lengths ++ bytes ∷ [])) (pos_abs t (begins left bytes) time) m.0, m.1)

pub late_means : (kind : Kind) (rate : ℕ) (lengths : List ℕ) (left : LeftFifo) (bytes : ℕ) (e : NoRoom) → Leaves kind rate lengths left → placed left bytes ≡ Err e → HasNone kind rate (lengths ++ bytes ∷ [])
late_means kind rate lengths left bytes e h is = (subst (PlacedMeans kind rate (lengths ++ bytes ∷ [])) is (placed_means kind rate lengths left bytes h)).0

-- ---- all units

with_times : List ℕ → Result (List ℕ × LeftFifo) NoRoom → Result (List ℕ × LeftFifo) NoRoom
with_times times (Ok r) = Ok (times ++ r.0, r.1)
with_times times (Err e) = Err e

times_on : (times : List ℕ) (x : ℕ) (r : Result (List ℕ × LeftFifo) NoRoom) → with_times (times ++ x ∷ []) r ≡ with_times times (with_time x r)
unfolding with_times
times_on times x (Ok r) = ap (λ (ts : List ℕ). Ok (ts, r.1)) (append_assoc times (x ∷ []) r.0)
times_on times x (Err e) = refl

one_on : (before : List ℕ) (b : ℕ) (rest : List ℕ) → (before ++ b ∷ []) ++ rest ≡ before ++ b ∷ rest
one_on before b rest = append_assoc before (b ∷ []) rest

-- a unit for which there is no room behind units before
lacks : (kind : Kind) (rate : ℕ) (rest before : List ℕ) (b : ℕ) (left : LeftFifo) → Leaves kind rate before left
    → HasNone kind rate (before ++ b ∷ []) → LacksRoom kind rate (before ++ b ∷ rest) (record { unit = left.count; bytes = b })
lacks kind rate rest before b left h none = record {
  within = omega (arith, length-append before (b ∷ rest), h.count_is);
  bytes_are = sym (get_or_push before b 0 left.count (sym h.count_is)) ∙ sym (get_or_append_left (before ++ b ∷ []) rest 0 left.count (omega (arith, length_push before b, h.count_is)))
      ∙ ap (λ xs. index xs left.count) (one_on before b rest);
  none = subst (HasNone kind rate) (sym taken) none;
  before = h.times;
  before_is = subst (IsSchedule (pace_of kind rate) (index (before ++ b ∷ rest)) h.times) (sym h.count_is)
      (same_schedule (pace_of kind rate) (index before) (index (before ++ b ∷ rest)) h.times h.times (length before) (λ i l. get_or_append_left before (b ∷ rest) 0 i l) (λ i l. refl) h.earliest.is_schedule);
}
  where
    taken : take (suc left.count) (before ++ b ∷ rest) ≡ before ++ b ∷ []
    taken = ap (take (suc left.count)) (sym (one_on before b rest)) ∙ take-append-le (suc left.count) (before ++ b ∷ []) rest (omega (arith, length_push before b, h.count_is))
        ∙ take_all (suc left.count) (before ++ b ∷ []) (omega (arith, length_push before b, h.count_is))

-- a unit for which there is
begin_on : (kind : Kind) (rate : ℕ) (before times : List ℕ) (b : ℕ) (left : LeftFifo) → (h : Leaves kind rate before left)
    → BeginAt kind rate before times → finish_after left b ≤ out_of (pace_of left.kind left.rate) left.count
    → BeginAt kind rate (before ++ b ∷ []) (times ++ begins left b ∷ [])
begin_on kind rate before times b left h begin there = record {
  as_many = omega (arith, length_push before b, length_push times (begins left b), begin.as_many);
  earliest = same_earliest (pace_of kind rate) (index (before ++ b ∷ [])) (index (before ++ b ∷ [])) (with_next h.times (length before) (begins left b)) (index (times ++ begins left b ∷ [])) (length (before ++ b ∷ []))
      (λ i l. refl) at (earliest_then kind rate before left b h there);
}
  where
    at : (i : ℕ) → i < length (before ++ b ∷ []) → index (times ++ begins left b ∷ []) i ≡ with_next h.times (length before) (begins left b) i
    at i l = elim (dec_lt i (length before)) [
      | yes m ↦ get_or_append_left times (begins left b ∷ []) 0 i (omega (arith, begin.as_many)) ∙ only (pace_of kind rate) (index before) (index times) h.times (length before) begin.earliest h.earliest i m
          ∙ sym (with_before h.times (length before) (begins left b) i m)
      | no m ↦ (let e : length before ≡ i = omega (arith, length_push before b) in
          get_or_push times (begins left b) 0 i (omega (arith, begin.as_many)) ∙ sym (with_last h.times (length before) (begins left b)) ∙ ap (with_next h.times (length before) (begins left b)) e)
    ]

abbrev goes_on : List ℕ → Result (ℕ × LeftFifo) NoRoom → Result (List ℕ × LeftFifo) NoRoom
goes_on rest (Ok r) = with_time r.0 (placed_all rest r.1)
goes_on rest (Err e) = Err e

-- behind units before, of which the times are known
more_means : (kind : Kind) (rate : ℕ) (rest before times : List ℕ) (left : LeftFifo) → Leaves kind rate before left
    → BeginAt kind rate before times → AllPlacedMean kind rate (before ++ rest) (with_times times (placed_all rest left))
unfolding with_times
more_means kind rate [] before times left h begin =
    subst (λ bs. AllPlacedMean kind rate bs (Ok (times ++ [], left))) (sym (append-nil before)) (subst (λ ts. BeginAt kind rate before ts) (sym (append-nil times)) begin, h)
more_means kind rate (b ∷ rest) before times left h begin = elim (dec_lt (out_of (pace_of left.kind left.rate) left.count) (finish_after left b)) [
  | yes l ↦ subst (λ r. AllPlacedMean kind rate (before ++ b ∷ rest) (with_times times (goes_on rest r))) (sym (placed_late left b l)) (lacks kind rate rest before b left h (has_none kind rate before left b h l))
  | no l ↦ (let t : finish_after left b ≤ out_of (pace_of left.kind left.rate) left.count = omega arith in
      let m = more_means kind rate rest (before ++ b ∷ []) (times ++ begins left b ∷ []) (with_unit left b (finish_after left b)) (leaves_then kind rate before left b h t) (begin_on kind rate before times b left h begin t) in
      subst (λ r. AllPlacedMean kind rate (before ++ b ∷ rest) (with_times times (goes_on rest r))) (sym (placed_there left b t))
      (subst (λ bs. AllPlacedMean kind rate bs (with_times times (goes_on rest (placing left b)))) (one_on before b rest)
      (subst (AllPlacedMean kind rate ((before ++ b ∷ []) ++ rest)) (times_on times (begins left b) (placed_all rest (with_unit left b (finish_after left b)))) m)))
]

with_none : (r : Result (List ℕ × LeftFifo) NoRoom) → with_times [] r ≡ r
unfolding with_times
with_none (Ok r) = refl
with_none (Err e) = refl

pub all_placed : (kind : Kind) (rate : ℕ) (lengths : List ℕ) → AllPlacedMean kind rate lengths (placed_all lengths (emptied kind rate))
all_placed kind rate lengths =
    subst (AllPlacedMean kind rate lengths) (with_none (placed_all lengths (emptied kind rate)))
    (more_means kind rate lengths [] [] (emptied kind rate) (none_leaves kind rate) (record {
      as_many = refl;
      earliest = same_earliest (pace_of kind rate) (index []) (index []) (λ i. 0) (index []) 0 (λ i l. refl) (λ i l. absurd (omega arith)) (none_earliest (pace_of kind rate) (index []));
    }))

fewer_by : (p : Pace) (b s : ℕ → ℕ) (m k : ℕ) → IsSchedule p b s (k + m) → IsSchedule p b s m
fewer_by p b s m zero q = let e : zero + m ≡ m = omega arith in subst (IsSchedule p b s) e q
fewer_by p b s m (suc k) q = let e : suc k + m ≡ suc (k + m) = omega arith in fewer_by p b s m k (fewer p b s (k + m) (subst (IsSchedule p b s) e q))

first_schedule : (p : Pace) (lengths : List ℕ) (s : ℕ → ℕ) (m : ℕ) → m ≤ length lengths → IsSchedule p (index lengths) s (length lengths) → IsSchedule p (index (take m lengths)) s (length (take m lengths))
first_schedule p lengths s m h q =
    let e : length lengths ≡ (length lengths - m) + m = omega arith in
    subst (IsSchedule p (index (take m lengths)) s) (sym (length-take-le m lengths h))
    (same_schedule p (index lengths) (index (take m lengths)) s s m (λ i l. get_or-take m lengths i 0 l) (λ i l. refl) (fewer_by p (index lengths) s m (length lengths - m) (subst (IsSchedule p (index lengths) s) e q)))

room_for : (kind : Kind) (rate : ℕ) (lengths : List ℕ) (s : ℕ → ℕ) (r : Result (List ℕ × LeftFifo) NoRoom) → IsSchedule (pace_of kind rate) (index lengths) s (length lengths) → AllPlacedMean kind rate lengths r → IsOk r
room_for kind rate lengths s (Ok r) q m = refl
room_for kind rate lengths s (Err e) q m = absurd (m.none s (first_schedule (pace_of kind rate) lengths s (suc e.unit) (omega (arith, m.within)) q))

pub all_have_room : (kind : Kind) (rate : ℕ) (lengths : List ℕ) (times : ℕ → ℕ) → IsSchedule (pace_of kind rate) (index lengths) times (length lengths) → IsOk (placed_all lengths (emptied kind rate))
all_have_room kind rate lengths times q = room_for kind rate lengths times (placed_all lengths (emptied kind rate)) q (all_placed kind rate lengths)
