-- Schedules of the first units, and of one unit more.
use Rattle.std.proofs.Common.{◌≡◌, ℕ, zero, suc, ◌+◌, ◌-◌, ◌*◌, ◌<◌, ◌≤◌, arith, refl, sym, ap, cond, subst}
use Rattle.std.specs.Prelude.{nat_le, nat_lt, ◌&&◌}
use Rattle.std.proofs.lemmas.Bool.Decides.{nat_tests}
use Rattle.std.proofs.Math.Decide.{dec_lt, dec_le}
use Rattle.mlp_fifo.specs.declared.pace.Pace.{Pace}
use Rattle.mlp_fifo.specs.Schedule.{out_of, duration_of, held, IsSchedule, IsEarliest, finish_of}
use Rattle.mlp_fifo.proofs.Loads.{load, load_falls}

-- where all have begun, what is held is the load
begun_one : (o b t x : ℕ) → t ≤ x → cond (nat_le t x && nat_lt x o) b 0 ≡ cond (nat_lt x o) b 0
begun_one o b t x h = grind (arith, nat_tests)

pub held_begun : (p : Pace) (b t : ℕ → ℕ) (n time : ℕ) → ((i : ℕ) → i < n → t i ≤ time) → held p b t n time ≡ load p b n time
held_begun p b t zero time h = refl
held_begun p b t (suc n) time h = omega (arith, held_begun p b t n time (λ i l. h i (omega arith)), begun_one (out_of p n) (b n) (t n) time (h n (omega arith)))

-- a unit that has not begun holds nothing
waiting_one : (o b t x : ℕ) → x < t → cond (nat_le t x && nat_lt x o) b 0 ≡ 0
waiting_one o b t x h = grind (arith, nat_tests)

-- more units hold no less
held_more : (p : Pace) (b t : ℕ → ℕ) (m k time : ℕ) → held p b t m time ≤ held p b t (k + m) time
held_more p b t m zero time = let e : zero + m ≡ m = omega arith in rw e (omega arith)
held_more p b t m (suc k) time = let e : suc k + m ≡ suc (k + m) = omega arith in rw e (omega (arith, held_more p b t m k time))

pub held_up : (p : Pace) (b t : ℕ → ℕ) (m n time : ℕ) → m ≤ n → held p b t m time ≤ held p b t n time
held_up p b t m n time h = let e : n ≡ (n - m) + m = omega arith in rw e (held_more p b t m (n - m) time)

-- what is held depends on the units' own times and lengths alone
pub held_same : (p : Pace) (b c t u : ℕ → ℕ) (n time : ℕ) → ((i : ℕ) → i < n → c i ≡ b i) → ((i : ℕ) → i < n → u i ≡ t i) → held p c u n time ≡ held p b t n time
held_same p b c t u zero time g h = refl
held_same p b c t u (suc n) time g h =
    let e = held_same p b c t u n time (λ i l. g i (omega arith)) (λ i l. h i (omega arith)) in
    let f = ap (λ z. cond (nat_le z time && nat_lt time (out_of p n)) (c n) 0) (h n (omega arith)) in
    let k = ap (λ z. cond (nat_le (t n) time && nat_lt time (out_of p n)) z 0) (g n (omega arith)) in
    omega (arith, e, f, k)

-- times that keep apart rise
pub rises : (p : Pace) (b t : ℕ → ℕ) (n : ℕ) → ((i : ℕ) → suc i < n → t i + duration_of p (b i) ≤ t (suc i)) → (k : ℕ) → k < n → (i : ℕ) → i ≤ k → t i ≤ t k
rises p b t n apart zero h i l = let e : i ≡ 0 = omega arith in rw e (omega arith)
rises p b t n apart (suc k) h i l = elim (dec_le i k) [ yes m ↦ omega (arith, rises p b t n apart k (omega arith) i m, apart k h) | no m ↦ (let e : i ≡ suc k = omega arith in rw e (omega arith)) ]

-- the bytes not yet output as a unit of a schedule begins are within the size
pub fits_at : (p : Pace) (b s : ℕ → ℕ) (n : ℕ) → IsSchedule p b s n → (i : ℕ) → i < n → load p b (suc i) (s i) ≤ p.size
fits_at p b s n q i h =
    let e : held p b s (suc i) (s i) ≡ load p b (suc i) (s i) = held_begun p b s (suc i) (s i) (λ j l. rises p b s n q.apart i h j (omega arith)) in
    omega (arith, e, held_up p b s (suc i) n (s i) (omega arith), q.room (s i))

-- a schedule of more units is one of fewer
pub fewer : (p : Pace) (b s : ℕ → ℕ) (n : ℕ) → IsSchedule p b s (suc n) → IsSchedule p b s n
fewer p b s n q = record {
  start = λ i l. q.start i (omega arith);
  in_time = λ i l. q.in_time i (omega arith);
  apart = λ i l. q.apart i (omega arith);
  room = λ time. omega (arith, q.room time, held_up p b s n (suc n) time (omega arith));
}

-- a schedule is one of units of the same lengths at the same times
pub same_schedule : (p : Pace) (b c t u : ℕ → ℕ) (n : ℕ) → ((i : ℕ) → i < n → c i ≡ b i) → ((i : ℕ) → i < n → u i ≡ t i) → IsSchedule p b t n → IsSchedule p c u n
same_schedule p b c t u n g h q = record {
  start = λ i l. omega (arith, h i l, q.start i l);
  in_time = λ i l. omega (arith, h i l, ap (duration_of p) (g i l), q.in_time i l);
  apart = λ i l. let k : i < n = omega arith in omega (arith, h i k, h (suc i) l, ap (duration_of p) (g i k), q.apart i l);
  room = λ time. omega (arith, held_same p b c t u n time g h, q.room time);
}

pub same_earliest : (p : Pace) (b c t u : ℕ → ℕ) (n : ℕ) → ((i : ℕ) → i < n → c i ≡ b i) → ((i : ℕ) → i < n → u i ≡ t i) → IsEarliest p b t n → IsEarliest p c u n
same_earliest p b c t u n g h q = record {
  is_schedule = same_schedule p b c t u n g h q.is_schedule;
  earliest = λ s r i l. omega (arith, h i l, q.earliest s (same_schedule p c b s s n (λ j k. sym (g j k)) (λ j k. refl) r) i l);
}

-- no unit of a schedule begins before the last one has arrived
pub after : (p : Pace) (b s : ℕ → ℕ) (n : ℕ) → IsSchedule p b s (suc n) → finish_of p b s n ≤ s n
after p b s zero q = omega arith
after p b s (suc n) q = q.apart n (omega arith)

-- a schedule goes on with a unit that may begin at x
pub extended : (p : Pace) (b t : ℕ → ℕ) (n x : ℕ) → IsSchedule p b t n → t n ≡ x → n * p.unit ≤ x → finish_of p b t n ≤ x
    → load p b (suc n) x ≤ p.size → x + duration_of p (b n) ≤ out_of p n → IsSchedule p b t (suc n)
extended p b t n x q here start arrived fits ends = record {
  start = λ i l. elim (dec_lt i n) [ yes k ↦ q.start i k | no k ↦ (let e : n ≡ i = omega arith in subst (λ j. j * p.unit ≤ t j) e (omega arith)) ];
  in_time = λ i l. elim (dec_lt i n) [ yes k ↦ q.in_time i k | no k ↦ (let e : n ≡ i = omega arith in subst (λ j. t j + duration_of p (b j) ≤ out_of p j) e (omega arith)) ];
  apart = steps;
  room = λ time. elim (dec_le x time) [
    | yes k ↦ (let e : held p b t (suc n) time ≡ load p b (suc n) time = held_begun p b t (suc n) time (λ i l. omega (arith, rises p b t (suc n) steps n (omega arith) i (omega arith))) in
        omega (arith, e, load_falls p b (suc n) x time k))
    | no k ↦ omega (arith, q.room time, waiting_one (out_of p n) (b n) (t n) time (omega arith))
  ];
}
  where
    last : (i : ℕ) → suc i ≡ n → t i + duration_of p (b i) ≤ t (suc i)
    last i e = let m = subst (λ j. finish_of p b t j ≤ x) (sym e) arrived in let f : t (suc i) ≡ t n = ap t e in omega (arith, m, f)

    steps : (i : ℕ) → suc i < suc n → t i + duration_of p (b i) ≤ t (suc i)
    steps i l = elim (dec_lt (suc i) n) [ yes k ↦ q.apart i k | no k ↦ last i (omega arith) ]
