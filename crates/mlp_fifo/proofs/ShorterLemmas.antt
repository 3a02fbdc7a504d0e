-- Shorter units arrive sooner and are held in less room.
use Rattle.std.proofs.Common.{◌≡◌, ℕ, zero, suc, ◌+◌, ◌*◌, ◌/◌, ◌%◌, ◌<◌, ◌≤◌, min, cond, IfSome, arith, sym, ◌∙◌, subst}
use Rattle.std.specs.Prelude.{nat_le, nat_lt, ◌&&◌}
use Rattle.std.proofs.lemmas.Bool.Decides.{nat_tests}
use Rattle.std.proofs.lemmas.Grind.{div_ceil_times}
use Rattle.std.proofs.Math.Decide.{dec_le}
use Rattle.std.proofs.lemmas.Nat.{mul-le}
use Rattle.mlp_fifo.specs.declared.pace.Pace.{Pace}
use Rattle.mlp_fifo.specs.Schedule.{out_of, duration_of, held, IsSchedule}
use Rattle.mlp_fifo.specs.Timed.{TimedUnit, bytes_at, IsTimed, IsShorter}

sooner : (p : Pace) (b c : ℕ) → 0 < p.peak → c ≤ b → duration_of p c ≤ duration_of p b
unfolding duration_of
sooner p b c h l =
    let x : ℕ = 128 * b / p.peak + min 1 (128 * b % p.peak) in
    let y : ℕ = 128 * c / p.peak + min 1 (128 * c % p.peak) in
    let e = div_ceil_times (128 * b) p.peak h in
    let f = div_ceil_times (128 * c) p.peak h in
    elim (dec_le y x) [
      | yes k ↦ k
      | no k ↦ absurd (let m = mul-le (suc x) p.peak y p.peak (omega arith) (omega arith) in let g : suc x * p.peak ≡ x * p.peak + p.peak = grind arith in omega (arith, m, g, e.0, f.1))
    ]

less_one : (t o b c x : ℕ) → c ≤ b → cond (nat_le t x && nat_lt x o) c 0 ≤ cond (nat_le t x && nat_lt x o) b 0
less_one t o b c x h = grind (arith, nat_tests)

less_held : (p : Pace) (b c t : ℕ → ℕ) (n time : ℕ) → ((i : ℕ) → i < n → c i ≤ b i) → held p c t n time ≤ held p b t n time
less_held p b c t zero time h = omega arith
less_held p b c t (suc n) time h = omega (arith, less_held p b c t n time (λ i l. h i (omega arith)), less_one (t n) (out_of p n) (b n) (c n) time (h n (omega arith)))

pub shorter_schedule : (p : Pace) (b c t : ℕ → ℕ) (n : ℕ) → 0 < p.peak → ((i : ℕ) → i < n → c i ≤ b i) → IsSchedule p b t n → IsSchedule p c t n
shorter_schedule p b c t n h l q = record {
  start = q.start;
  in_time = λ i k. omega (arith, sooner p (b i) (c i) h (l i k), q.in_time i k);
  apart = λ i k. omega (arith, sooner p (b i) (c i) h (l i (omega arith)), q.apart i k);
  room = λ time. omega (arith, less_held p b c t n time l, q.room time);
}

pub shorter_timed : (p : Pace) (u v : ℕ → TimedUnit) (n : ℕ) → 0 < p.peak → ((i : ℕ) → i < n → IsShorter (v i) (u i)) → IsTimed p u n → IsTimed p v n
shorter_timed p u v n h l q = record {
  times = q.times;
  has_times = record { least = q.has_times.least; below = q.has_times.below; low = λ i k. q.has_times.low i k ∙ sym (l i k).same_input };
  is_schedule = shorter_schedule p (bytes_at u) (bytes_at v) q.times n h (λ i k. (l i k).shorter) q.is_schedule;
  outputs = λ i k. subst (λ o. IfSome o (λ (m : ℕ). m ≡ out_of p i % 65536)) (sym (l i k).same_output) (q.outputs i k);
}
