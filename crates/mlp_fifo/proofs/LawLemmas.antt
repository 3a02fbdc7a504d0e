-- Where there is a schedule there is an earliest one, and units that are not too long begin at their turn.
use Rattle.std.proofs.Common.{◌≡◌, ◌⊎◌, ℕ, zero, suc, ◌+◌, ◌-◌, ◌*◌, ◌<◌, ◌≤◌, max, arith, refl, sym, ◌∙◌, ap, subst, inl, inr}
use Rattle.std.proofs.Math.Decide.{dec_lt}
use Rattle.std.proofs.lemmas.Nat.{mul-le}
use Rattle.mlp_syntax.specs.declared.major.Kind.{Kind}
use Rattle.mlp_syntax.specs.declared.major.Kind.TheVariants.{Fbb, Fba}
use Rattle.mlp_fifo.specs.declared.pace.Pace.{Pace}
use Rattle.mlp_fifo.specs.Pace.{unit_of, peak_of, size_of, pace_of, single_most}
use Rattle.mlp_fifo.specs.Schedule.{out_of, duration_of, IsSchedule, IsEarliest, finish_of}
use Rattle.mlp_fifo.specs.Placed.{first_time}
use Rattle.mlp_fifo.proofs.FirstTimes.{within, first_is}
use Rattle.mlp_fifo.proofs.Loads.{load, load_late, sum_most}
use Rattle.mlp_fifo.proofs.Schedules.{fewer, same_earliest, same_schedule, after, fits_at, extended}
use Rattle.mlp_fifo.proofs.Next.{IsNext, next_earliest, next_least, finish_least}
use Rattle.mlp_fifo.proofs.Places.{with_next, with_before, with_last, finish_same}

-- after an earliest schedule there is a least time for the next unit, where some time serves
next_is : (p : Pace) (b : ℕ → ℕ) (n finish y : ℕ) → n * p.unit ≤ y → finish ≤ y → load p b (suc n) y ≤ p.size → (x : ℕ) × IsNext p b n finish x
next_is p b n finish y start arrived fits =
    let lower : ℕ = max (n * p.unit) finish in
    let e : y ≡ lower + (y - lower) = omega arith in
    let r = first_is (load p b (suc n)) p.size (y - lower) lower (subst (λ z. load p b (suc n) z ≤ p.size) e fits) in
    (first_time (within (load p b (suc n)) p.size) (y - lower) lower, record { start = omega (arith, r.start); after = omega (arith, r.start); fits = r.fits; least = λ z s a k. r.least z (omega arith) k })

pub none_earliest : (p : Pace) (b : ℕ → ℕ) → IsEarliest p b (λ i. 0) 0
none_earliest p b = record {
  is_schedule = record { start = λ i h. absurd (omega arith); in_time = λ i h. absurd (omega arith); apart = λ i h. absurd (omega arith); room = λ time. omega arith };
  earliest = λ s q i h. absurd (omega arith);
}

pub exists : (p : Pace) (b s : ℕ → ℕ) (n : ℕ) → IsSchedule p b s n → (t : ℕ → ℕ) × IsEarliest p b t n
exists p b s zero q = (λ i. 0, none_earliest p b)
exists p b s (suc n) q =
    let r = exists p b s n (fewer p b s n q) in
    let x = next_is p b n (finish_of p b r.0 n) (s n) (q.start n (omega arith))
    (omega (arith, finish_least p b r.0 s n r.1 (fewer p b s n q), after p b s n q)) (fits_at p b s (suc n) q n (omega arith)) in
    let u : ℕ → ℕ = with_next r.0 n x.0 in
    let g = finish_same p b b r.0 u n (λ i l. refl) (λ i l. with_before r.0 n x.0 i l) in (
      u,
      next_earliest p b u n x.0 (same_earliest p b b r.0 u n (λ i l. refl) (λ i l. with_before r.0 n x.0 i l) r.1) (with_last r.0 n x.0)
          (subst (λ m. IsNext p b n m x.0) (sym g) x.1) (omega (arith, next_least p b r.0 s n x.0 r.1 x.1 q, q.in_time n (omega arith))),
    )

pub only : (p : Pace) (b t u : ℕ → ℕ) (n : ℕ) → IsEarliest p b t n → IsEarliest p b u n → (i : ℕ) → i < n → t i ≡ u i
only p b t u n q r i h = omega (arith, q.earliest u r.is_schedule i h, r.earliest t q.is_schedule i h)

-- earlier times of the units before leave the last where it is
one_fewer : (p : Pace) (b t : ℕ → ℕ) (n : ℕ) → IsEarliest p b t (suc n) → IsEarliest p b t n
one_fewer p b t n q =
    let a = fewer p b t n q.is_schedule in
    let r = exists p b t n a in
    let u : ℕ → ℕ = with_next r.0 n (t n) in
    let before : (i : ℕ) → i < n → u i ≡ r.0 i = λ i l. with_before r.0 n (t n) i l in
    let m = finish_least p b r.0 t n r.1 a in
    let g = finish_same p b b r.0 u n (λ i l. refl) before in
    let w = extended p b u n (t n) (same_schedule p b b r.0 u n (λ i l. refl) before r.1.is_schedule) (with_last r.0 n (t n)) (q.is_schedule.start n (omega arith))
    (omega (arith, m, g, after p b t n q.is_schedule)) (fits_at p b t (suc n) q.is_schedule n (omega arith)) (q.is_schedule.in_time n (omega arith)) in
    record {
      is_schedule = a;
      earliest = λ s k i l. omega (arith, q.earliest u w i (omega arith), before i l, r.1.earliest s k i l);
    }

prefix_by : (p : Pace) (b t : ℕ → ℕ) (m k : ℕ) → IsEarliest p b t (k + m) → IsEarliest p b t m
prefix_by p b t m zero q = let e : zero + m ≡ m = omega arith in subst (IsEarliest p b t) e q
prefix_by p b t m (suc k) q = let e : suc k + m ≡ suc (k + m) = omega arith in prefix_by p b t m k (one_fewer p b t (k + m) (subst (IsEarliest p b t) e q))

pub prefix : (p : Pace) (b t : ℕ → ℕ) (m n : ℕ) → m ≤ n → IsEarliest p b t n → IsEarliest p b t m
prefix p b t m n h q = let e : n ≡ (n - m) + m = omega arith in prefix_by p b t m (n - m) (subst (IsEarliest p b t) e q)

-- a pace at which units of at most a bound arrive within their period, and as many as the latency counts fit
record IsSingle (p : Pace) (most : ℕ) : Type 0 where
  unit_is : p.unit ≡ 40
  latency_is : p.latency ≡ 90
  short : (bytes : ℕ) → bytes ≤ most → duration_of p bytes ≤ 40
  fits : 90 * most ≤ p.size

-- of units at their turns at most 90 have not been output
turn_fits : (p : Pace) (b : ℕ → ℕ) (most n : ℕ) → IsSingle p most → ((i : ℕ) → i < suc n → b i ≤ most) → load p b (suc n) (n * 40) ≤ p.size
unfolding out_of
turn_fits p b most n q h = elim (dec_lt n 90) [
  | yes l ↦ (let e : 0 + suc n ≡ suc n = omega arith in
      omega (
        arith,
        ap (λ m. load p b m (n * 40)) e,
        load_late p b 0 (suc n) (n * 40) (λ i k. absurd (omega arith)),
        sum_most b most 0 (suc n) (λ i k. h (0 + i) (omega arith)),
        q.fits,
        mul-le (suc n) most 90 most (omega arith) (omega arith),
      ))
  | no l ↦ (let e : n - 89 + 90 ≡ suc n = omega arith in
      omega (arith, ap (λ m. load p b m (n * 40)) e, load_late p b (n - 89) 90 (n * 40) (λ i k. output i k), sum_most b most (n - 89) 90 (λ i k. h (n - 89 + i) (omega arith)), q.fits))
]
  where
    output : (i : ℕ) → i < n - 89 → (p.latency + i) * p.unit ≤ n * 40
    output i k = let e : (p.latency + i) * p.unit ≡ (90 + i) * 40 = ap (λ l. (l + i) * p.unit) q.latency_is ∙ ap (λ u. (90 + i) * u) q.unit_is in omega arith

single : (p : Pace) (b : ℕ → ℕ) (most n : ℕ) → IsSingle p most → ((i : ℕ) → i < n → b i ≤ most) → IsEarliest p b (λ i. i * 40) n
unfolding out_of
single p b most zero q h = same_earliest p b b (λ i. 0) (λ i. i * 40) 0 (λ i l. refl) (λ i l. absurd (omega arith)) (none_earliest p b)
single p b most (suc n) q h =
    let u : n * p.unit ≡ n * 40 = ap (λ u. n * u) q.unit_is in
    next_earliest p b (λ i. i * 40) n (n * 40) (single p b most n q (λ i l. h i (omega arith))) refl
    (record { start = omega arith; after = finished n h; fits = turn_fits p b most n q h; least = λ y s a f. omega arith })
    (output n (q.short (b n) (h n (omega arith))))
  where
    finished : (n : ℕ) → ((i : ℕ) → i < suc n → b i ≤ most) → finish_of p b (λ i. i * 40) n ≤ n * 40
    finished zero h = omega arith
    finished (suc m) h = omega (arith, q.short (b m) (h m (omega arith)))

    output : (n : ℕ) → duration_of p (b n) ≤ 40 → n * 40 + duration_of p (b n) ≤ out_of p n
    output n d = let e : (p.latency + n) * p.unit ≡ (90 + n) * 40 = ap (λ l. (l + n) * p.unit) q.latency_is ∙ ap (λ u. (90 + n) * u) q.unit_is in omega (arith, e, d)

singles : (kind : Kind) (rate : ℕ) → (rate ≡ 44100) ⊎ (rate ≡ 48000) → IsSingle (pace_of kind rate) (single_most kind)
unfolding pace_of unit_of peak_of size_of duration_of
singles Fbb rate (inl e) = rw e (record { unit_is = refl; latency_is = refl; short = λ bytes h. omega arith; fits = omega arith })
singles Fbb rate (inr e) = rw e (record { unit_is = refl; latency_is = refl; short = λ bytes h. omega arith; fits = omega arith })
singles Fba rate (inl e) = rw e (record { unit_is = refl; latency_is = refl; short = λ bytes h. omega arith; fits = omega arith })
singles Fba rate (inr e) = rw e (record { unit_is = refl; latency_is = refl; short = λ bytes h. omega arith; fits = omega arith })

pub single_rates : (kind : Kind) (rate : ℕ) (b : ℕ → ℕ) (n : ℕ) → (rate ≡ 44100) ⊎ (rate ≡ 48000) → ((i : ℕ) → i < n → b i ≤ single_most kind) → IsEarliest (pace_of kind rate) b (λ i. i * 40) n
single_rates kind rate b n r h = single (pace_of kind rate) b (single_most kind) n (singles kind rate r) h
