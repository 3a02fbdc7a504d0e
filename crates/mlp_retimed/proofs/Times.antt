-- The times of retimed units: those of a schedule, which all their restarts tell.
use Rattle.std.proofs.Common.{◌≡◌, ℕ, zero, suc, ◌+◌, ◌%◌, ◌<◌, List, ◌∷◌, length, map, subst, arith}
use Rattle.std.specs.Prelude.{All, slice_index}
use Rattle.mlp_contents.specs.Units.{Unit_of}
use Rattle.mlp_fifo.specs.declared.pace.Pace.{Pace}
use Rattle.mlp_fifo.specs.Schedule.{out_of}
use Rattle.mlp_retime.specs.Retimed.{length_of}
use Rattle.mlp_retimed.specs.Fits.{restart_timings, timings_at}
use Rattle.mlp_retimed.proofs.Restarts.{Is}

-- a retimed unit, with this output timing
pub record FitsAt (output : ℕ) (u w : Unit_of) : Type 0 where
  pub outputs : All (Is output) (restart_timings w.contents)
  pub length : length_of w ≡ length_of u

-- several, of which the first has number n
pub record AllFit (p : Pace) (n : ℕ) (times : List ℕ) (us vs : List Unit_of) : Type 0 where
  pub lengths : map length_of vs ≡ map length_of us
  pub inputs : (i : ℕ) → i < length us → (timings_at vs i).input ≡ slice_index times i % 65536
  pub outputs : (i : ℕ) → i < length us → All (Is (out_of p (n + i) % 65536)) (timings_at vs i).outputs

pub input_at : (w : Unit_of) (us vs : List Unit_of) (t : ℕ) (times : List ℕ) → w.outer.head.timing ≡ t % 65536 → ((i : ℕ) → i < length us → (timings_at vs i).input ≡ slice_index times i % 65536)
    → (i : ℕ) → i < suc (length us) → (timings_at (w ∷ vs) i).input ≡ slice_index (t ∷ times) i % 65536
input_at w us vs t times here later zero lt = here
input_at w us vs t times here later (suc i) lt = later i (omega (arith, lt))

pub output_at : (w : Unit_of) (us vs : List Unit_of) (p : Pace) (n : ℕ) → All (Is (out_of p n % 65536)) (restart_timings w.contents) → ((i : ℕ) → i < length us → All (Is (out_of p (suc n + i) % 65536)) (timings_at vs i).outputs)
    → (i : ℕ) → i < suc (length us) → All (Is (out_of p (n + i) % 65536)) (timings_at (w ∷ vs) i).outputs
output_at w us vs p n here later zero lt = let e : n ≡ n + 0 = omega arith in subst (λ (m : ℕ). All (Is (out_of p m % 65536)) (restart_timings w.contents)) e here
output_at w us vs p n here later (suc i) lt =
    let e : suc n + i ≡ n + suc i = omega arith in
    subst (λ (m : ℕ). All (Is (out_of p m % 65536)) (timings_at vs i).outputs) e (later i (omega (arith, lt)))
