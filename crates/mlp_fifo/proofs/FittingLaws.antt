-- The timings of the earliest schedule are those of a stream.
use Rattle.std.proofs.Common.{◌≡◌, ℕ, ◌+◌, ◌*◌, ◌%◌, ◌<◌, List, [], ◌∷◌, IfSome, arith, sym}
use Rattle.std.specs.Prelude.{All, slice_get}
use Rattle.mlp_syntax.specs.declared.major.Kind.{Kind}
use Rattle.mlp_fifo.specs.Pace.{pace_of}
use Rattle.mlp_fifo.specs.Schedule.{out_of}
use Rattle.mlp_fifo.specs.Timed.{IsTimed}
use Rattle.mlp_fifo.specs.Fitting.{UnitTimings, first_timing, IsFitting}
use Rattle.mlp_fifo.proofs.Paces.{unit_most}

-- a unit is output less than 2^16 after its turn
soon_out : (kind : Kind) (rate i : ℕ) → out_of (pace_of kind rate) i < i * (pace_of kind rate).unit + 65536
unfolding out_of pace_of
soon_out kind rate i =
    let u = unit_most rate in
    let e : (90 + i) * (pace_of kind rate).unit ≡ 90 * (pace_of kind rate).unit + i * (pace_of kind rate).unit = grind arith in
    omega (arith, e, u)

first_output : (outputs : List ℕ) (out : ℕ) → All (λ o. o ≡ out % 65536) outputs → IfSome (slice_get outputs 0) (λ o. o ≡ out % 65536)
first_output [] out h = tt
first_output (o ∷ outputs) out h = h 0 0 (omega arith)

pub fitting_timed : (kind : Kind) (rate : ℕ) (u : ℕ → UnitTimings) (n : ℕ) → IsFitting (pace_of kind rate) u n → IsTimed (pace_of kind rate) (λ i. first_timing (u i)) n
fitting_timed kind rate u n q = record {
  times = q.times;
  has_times = record {
    least = λ i l. q.earliest.is_schedule.start i l;
    below = λ i l. omega (arith, q.earliest.is_schedule.in_time i l, soon_out kind rate i);
    low = λ i l. sym (q.inputs i l);
  };
  is_schedule = q.earliest.is_schedule;
  outputs = λ i l. first_output (u i).outputs (out_of (pace_of kind rate) i) (q.outputs i l);
}
