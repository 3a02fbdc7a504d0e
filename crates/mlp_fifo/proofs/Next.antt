-- One unit more, after an earliest schedule.
use Rattle.std.proofs.Common.{◌≡◌, ℕ, zero, suc, ◌+◌, ◌*◌, ◌<◌, ◌≤◌, arith, subst}
use Rattle.std.proofs.Math.Decide.{dec_lt}
use Rattle.mlp_fifo.specs.declared.pace.Pace.{Pace}
use Rattle.mlp_fifo.specs.Schedule.{out_of, duration_of, IsSchedule, IsEarliest, finish_of}
use Rattle.mlp_fifo.proofs.Loads.{load}
use Rattle.mlp_fifo.proofs.Schedules.{fits_at, fewer, after, extended}

-- x is the least time at which unit n may begin, where those before it have arrived at a finish
pub record IsNext (p : Pace) (b : ℕ → ℕ) (n finish x : ℕ) : Type 0 where
  pub start : n * p.unit ≤ x
  pub after : finish ≤ x
  pub fits : load p b (suc n) x ≤ p.size
  pub least : (y : ℕ) → n * p.unit ≤ y → finish ≤ y → load p b (suc n) y ≤ p.size → x ≤ y

pub next_only : (p : Pace) (b : ℕ → ℕ) (n finish x y : ℕ) → IsNext p b n finish x → IsNext p b n finish y → x ≡ y
next_only p b n finish x y h k = omega (arith, h.least y k.start k.after k.fits, k.least x h.start h.after h.fits)

-- the earliest schedule finishes no later than any
pub finish_least : (p : Pace) (b t s : ℕ → ℕ) (n : ℕ) → IsEarliest p b t n → IsSchedule p b s n → finish_of p b t n ≤ finish_of p b s n
finish_least p b t s zero q r = omega arith
finish_least p b t s (suc n) q r = omega (arith, q.earliest s r n (omega arith))

-- no schedule begins the next unit earlier
pub next_least : (p : Pace) (b t s : ℕ → ℕ) (n x : ℕ) → IsEarliest p b t n → IsNext p b n (finish_of p b t n) x → IsSchedule p b s (suc n) → x ≤ s n
next_least p b t s n x q next r =
    next.least (s n) (r.start n (omega arith)) (omega (arith, finish_least p b t s n q (fewer p b s n r), after p b s n r)) (fits_at p b s (suc n) r n (omega arith))

-- where it ends too late there is no schedule
pub next_none : (p : Pace) (b t s : ℕ → ℕ) (n x : ℕ) → IsEarliest p b t n → IsNext p b n (finish_of p b t n) x → out_of p n < x + duration_of p (b n) → IsSchedule p b s (suc n) → ⊥
next_none p b t s n x q next late r = omega (arith, next_least p b t s n x q next r, r.in_time n (omega arith), late)

-- else the earliest schedule goes on with it
pub next_earliest : (p : Pace) (b t : ℕ → ℕ) (n x : ℕ) → IsEarliest p b t n → t n ≡ x → IsNext p b n (finish_of p b t n) x → x + duration_of p (b n) ≤ out_of p n → IsEarliest p b t (suc n)
next_earliest p b t n x q here next ends = record {
  is_schedule = extended p b t n x q.is_schedule here next.start next.after next.fits ends;
  earliest = λ s r i l. elim (dec_lt i n) [
    | yes k ↦ q.earliest s (fewer p b s n r) i k
    | no k ↦ (let e : n ≡ i = omega arith in subst (λ j. t j ≤ s j) e (omega (arith, next_least p b t s n x q next r)))
  ];
}
