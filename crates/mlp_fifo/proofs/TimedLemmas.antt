-- The timing of a stream, one access unit more.
use Rattle.std.proofs.Common.{◌≡◌, ℕ, zero, suc, ◌+◌, ◌*◌, ◌%◌, ◌<◌, ◌≤◌, List, [], ◌∷◌, ◌++◌, length, map, Option, IfSome, arith, refl, sym, ◌∙◌, ap, subst}
use Rattle.std.proofs.Math.Decide.{dec_lt}
use Rattle.std.proofs.lemmas.List.{get_or_append_left, get_or_push, map-append}
use Rattle.mlp_fifo.specs.declared.pace.Pace.{Pace}
use Rattle.mlp_fifo.specs.Schedule.{out_of, duration_of, finish_of}
use Rattle.mlp_fifo.specs.Timed.{TimedUnit, unit_at, bytes_at, HasTimes, IsTimed}
use Rattle.mlp_fifo.proofs.Loads.{load}
use Rattle.mlp_fifo.proofs.Shown.{index}
use Rattle.mlp_fifo.proofs.Schedules.{fewer, same_schedule, after, fits_at, extended}

-- unit n may begin at a time, where those before it have arrived at a finish, and has this output timing
pub record Admits (p : Pace) (b : ℕ → ℕ) (n finish time : ℕ) (output : Option ℕ) : Type 0 where
  pub after : finish ≤ time
  pub fits : load p b (suc n) time ≤ p.size
  pub in_time : time + duration_of p (b n) ≤ out_of p n
  pub output_is : IfSome output (λ o. o ≡ out_of p n % 65536)

same_low : (a x y : ℕ) → a ≤ x → x < a + 65536 → a ≤ y → y < a + 65536 → x % 65536 ≡ y % 65536 → x ≡ y
same_low a x y h k l m e = omega arith

-- at most one list of times has these timings
pub times_only : (p : Pace) (u : ℕ → TimedUnit) (t s : ℕ → ℕ) (n : ℕ) → HasTimes p u t n → HasTimes p u s n → (i : ℕ) → i < n → t i ≡ s i
times_only p u t s n h k i l = same_low (i * p.unit) (t i) (s i) (h.least i l) (h.below i l) (k.least i l) (k.below i l) (h.low i l ∙ sym (k.low i l))

pub times_same : (p : Pace) (u v : ℕ → TimedUnit) (t s : ℕ → ℕ) (n : ℕ) → ((i : ℕ) → i < n → v i ≡ u i) → ((i : ℕ) → i < n → s i ≡ t i) → HasTimes p u t n → HasTimes p v s n
times_same p u v t s n g e h = record {
  least = λ i l. omega (arith, e i l, h.least i l);
  below = λ i l. omega (arith, e i l, h.below i l);
  low = λ i l. ap (λ x. x % 65536) (e i l) ∙ h.low i l ∙ ap (λ w. w.input) (sym (g i l));
}

pub times_fewer : (p : Pace) (u : ℕ → TimedUnit) (t : ℕ → ℕ) (n : ℕ) → HasTimes p u t (suc n) → HasTimes p u t n
times_fewer p u t n h = record { least = λ i l. h.least i (omega arith); below = λ i l. h.below i (omega arith); low = λ i l. h.low i (omega arith) }

pub times_more : (p : Pace) (u : ℕ → TimedUnit) (t : ℕ → ℕ) (n : ℕ) → HasTimes p u t n → n * p.unit ≤ t n → t n < n * p.unit + 65536 → t n % 65536 ≡ (u n).input → HasTimes p u t (suc n)
times_more p u t n h least below low = record {
  least = λ i l. elim (dec_lt i n) [ yes k ↦ h.least i k | no k ↦ (let e : n ≡ i = omega arith in subst (λ j. j * p.unit ≤ t j) e least) ];
  below = λ i l. elim (dec_lt i n) [ yes k ↦ h.below i k | no k ↦ (let e : n ≡ i = omega arith in subst (λ j. t j < j * p.unit + 65536) e below) ];
  low = λ i l. elim (dec_lt i n) [ yes k ↦ h.low i k | no k ↦ (let e : n ≡ i = omega arith in subst (λ j. t j % 65536 ≡ (u j).input) e low) ];
}

pub timed_same : (p : Pace) (u v : ℕ → TimedUnit) (n : ℕ) → ((i : ℕ) → i < n → v i ≡ u i) → IsTimed p u n → IsTimed p v n
timed_same p u v n g q = record {
  times = q.times;
  has_times = times_same p u v q.times q.times n g (λ i l. refl) q.has_times;
  is_schedule = same_schedule p (bytes_at u) (bytes_at v) q.times q.times n (λ i l. ap (λ w. w.bytes) (g i l)) (λ i l. refl) q.is_schedule;
  outputs = λ i l. subst (λ w. IfSome w.output (λ o. o ≡ out_of p i % 65536)) (sym (g i l)) (q.outputs i l);
}

pub timed_fewer : (p : Pace) (u : ℕ → TimedUnit) (n : ℕ) → IsTimed p u (suc n) → IsTimed p u n
timed_fewer p u n q = record {
  times = q.times;
  has_times = times_fewer p u q.times n q.has_times;
  is_schedule = fewer p (bytes_at u) q.times n q.is_schedule;
  outputs = λ i l. q.outputs i (omega arith);
}

-- a unit that the units before admit
pub timed_more : (p : Pace) (u : ℕ → TimedUnit) (t : ℕ → ℕ) (n : ℕ) → IsTimed p u n → HasTimes p u t (suc n) → Admits p (bytes_at u) n (finish_of p (bytes_at u) t n) (t n) (u n).output → IsTimed p u (suc n)
timed_more p u t n q h a = record {
  times = t;
  has_times = h;
  is_schedule = extended p (bytes_at u) t n (t n)
      (same_schedule p (bytes_at u) (bytes_at u) q.times t n (λ i l. refl) (λ i l. times_only p u t q.times n (times_fewer p u t n h) q.has_times i l) q.is_schedule)
      refl (h.least n (omega arith)) a.after a.fits a.in_time;
  outputs = λ i l. elim (dec_lt i n) [
    | yes k ↦ q.outputs i k
    | no k ↦ (let e : n ≡ i = omega arith in subst (λ j. IfSome (u j).output (λ o. o ≡ out_of p j % 65536)) e a.output_is)
  ];
}

-- .. and the units before admit each unit of a stream
pub timed_admits : (p : Pace) (u : ℕ → TimedUnit) (t : ℕ → ℕ) (n : ℕ) → IsTimed p u (suc n) → HasTimes p u t (suc n) → Admits p (bytes_at u) n (finish_of p (bytes_at u) t n) (t n) (u n).output
timed_admits p u t n q h =
    let s = same_schedule p (bytes_at u) (bytes_at u) q.times t (suc n) (λ i l. refl) (λ i l. times_only p u t q.times (suc n) h q.has_times i l) q.is_schedule in
    record { after = after p (bytes_at u) t n s; fits = fits_at p (bytes_at u) t (suc n) s n (omega arith); in_time = s.in_time n (omega arith); output_is = q.outputs n (omega arith) }

-- ---- lists of units

pub unit_before : (units : List TimedUnit) (v : TimedUnit) (i : ℕ) → i < length units → unit_at (units ++ v ∷ []) i ≡ unit_at units i
unit_before units v i h = get_or_append_left units (v ∷ []) _ i h

pub unit_last : (units : List TimedUnit) (v : TimedUnit) (n : ℕ) → length units ≡ n → unit_at (units ++ v ∷ []) n ≡ v
unit_last units v n h = get_or_push units v _ n h

abbrev pub lengths_of : List TimedUnit → List ℕ
lengths_of units = map (λ (u : TimedUnit). u.bytes) units

pub bytes_index : (units : List TimedUnit) (i : ℕ) → bytes_at (unit_at units) i ≡ index (lengths_of units) i
bytes_index [] i = refl
bytes_index (u ∷ units) zero = refl
bytes_index (u ∷ units) (suc i) = bytes_index units i

pub lengths_push : (units : List TimedUnit) (v : TimedUnit) → lengths_of (units ++ v ∷ []) ≡ lengths_of units ++ v.bytes ∷ []
lengths_push units v = map-append (λ (u : TimedUnit). u.bytes) units (v ∷ [])
