-- What `check` says of a retimed stream: that it has the timing of one.
use Rattle.std.proofs.Math.Path.{fun_ext}
use Rattle.std.proofs.Common.{◌≡◌, ℕ, zero, suc, ◌+◌, ◌%◌, ◌≤◌, List, [], ◌∷◌, ◌++◌, length, take, map, Option, Some, None, IfSome, refl, sym, ap, subst, ◌∙◌, arith, add-one, append_assoc}
use Rattle.std.specs.Prelude.{All, option_map}
use Rattle.std.proofs.lemmas.List.{length-map}
use Rattle.std.proofs.lemmas.List.Elements.{All-head}
use Rattle.mlp_syntax.specs.declared.major.MajorSync.{MajorSync}
use Rattle.mlp_syntax.specs.declared.restart.Restart.{Restart}
use Rattle.mlp_syntax.specs.declared.segment.BlockHead.{BlockHead}
use Rattle.mlp_syntax.specs.declared.segment.Segment.{Segment}
use Rattle.mlp_bits.specs.Bits.{bits_of}
use Rattle.mlp_layout.specs.Streams.{Stream}
use Rattle.mlp_unit.specs.AccessUnit.{stream_kind, stream_rate}
use Rattle.mlp_contents.specs.Known.{first_restart}
use Rattle.mlp_contents.specs.Units.{Unit_of, start, top_of, whole}
use Rattle.mlp_fifo.specs.declared.pace.Pace.{Pace}
use Rattle.mlp_fifo.specs.Schedule.{out_of, IsSchedule}
use Rattle.mlp_fifo.specs.Timed.{unit_at, bytes_at, IsTimed}
use Rattle.mlp_fifo.proofs.FittingLaws.{fitting_timed}
use Rattle.mlp_samples.proofs.Streams.{left_is}
use Rattle.mlp_cut.specs.Cut.{first_sync, units_bytes}
use Rattle.mlp_samples.specs.Behind.{left_behind}
use Rattle.mlp_check.specs.Checking.{timed_unit, KeepTiming}
use Rattle.mlp_extracted.specs.Lower.{lowered}
use Rattle.mlp_retime.specs.Retimed.{length_of, retimed_from, pace_in, IsRetimed}
use Rattle.mlp_retime.specs.Laws.{IsHighest}
use Rattle.mlp_retimed.specs.Fits.{timing_of, block_timings, restart_timings, timings_at, Fit}
use Rattle.mlp_retimed.proofs.Restarts.{Is}
use Rattle.mlp_retimed.proofs.Law.{plays_retimed}
use Rattle.mlp_retimed.proofs.Fitting.{retimed_fit}

-- ---- the restart of substream 0

abbrev first_output : List Segment → Option ℕ
first_output ss = option_map (λ r. r.output_timing) (first_restart (top_of 0 ss).blocks.items)

module _ (t : ℕ) where
  restart_is : (o : Option Restart) (more : List ℕ) → All (Is t) (timing_of o ++ more) → IfSome (option_map (λ r. r.output_timing) o) (Is t)
  restart_is None more a = tt
  restart_is (Some r) more a = All-head (Is t) r.output_timing more a

  heads_are : (hs : List BlockHead) (more : List ℕ) → All (Is t) (block_timings hs ++ more) → IfSome (option_map (λ r. r.output_timing) (first_restart hs)) (Is t)
  heads_are [] more a = tt
  heads_are (h ∷ hs) more a = restart_is h.restart (block_timings hs ++ more) (subst (All (Is t)) (append_assoc (timing_of h.restart) (block_timings hs) more) a)

  first_is : (ss : List Segment) → All (Is t) (restart_timings ss) → IfSome (first_output ss) (Is t)
  first_is [] a = tt
  first_is (s ∷ ss) a = heads_are s.blocks.items (restart_timings ss) a

  top_taken : (j : ℕ) (ss : List Segment) → top_of 0 (take (suc j) ss) ≡ top_of 0 ss
  top_taken j [] = refl
  top_taken j (s ∷ ss) = refl

  lowered_is : (j : ℕ) (ss : List Segment) → All (Is t) (restart_timings ss) → IfSome (first_output (take (j + 1) ss)) (Is t)
  lowered_is j ss a =
      let same : top_of 0 ss ≡ top_of 0 (take (j + 1) ss) = sym (ap (λ (n : ℕ). top_of 0 (take n ss)) (add-one j) ∙ top_taken j ss) in
      subst (λ (s : Segment). IfSome (option_map (λ r. r.output_timing) (first_restart s.blocks.items)) (Is t)) same (first_is ss a)

  output_is : (j : ℕ) (vs : List Unit_of) (i : ℕ) → All (Is t) (timings_at vs i).outputs → IfSome (unit_at (map timed_unit (map (lowered j) vs)) i).output (Is t)
  output_is j [] i a = tt
  output_is j (v ∷ vs) zero a = lowered_is j v.contents a
  output_is j (v ∷ vs) (suc i) a = output_is j vs i a

-- ---- all units

input_is : (j : ℕ) (vs : List Unit_of) (i : ℕ) → (timings_at vs i).input ≡ (unit_at (map timed_unit (map (lowered j) vs)) i).input
input_is j [] i = refl
input_is j (v ∷ vs) zero = refl
input_is j (v ∷ vs) (suc i) = input_is j vs i

bytes_is : (j : ℕ) (vs : List Unit_of) (i : ℕ) → (timings_at vs i).bytes ≡ (unit_at (map timed_unit (map (lowered j) vs)) i).bytes
bytes_is j [] i = refl
bytes_is j (v ∷ vs) zero = refl
bytes_is j (v ∷ vs) (suc i) = bytes_is j vs i

-- units that fit have the timing of a stream
keeps_timing : (j : ℕ) (sync : Option MajorSync) (vs : List Unit_of) → Fit sync vs → KeepTiming sync (map (lowered j) vs)
keeps_timing j sync vs f =
    let p = pace_in sync in
    let q = fitting_timed (stream_kind sync) (stream_rate sync) (timings_at vs) (length vs) f in
    let units = unit_at (map timed_unit (map (lowered j) vs)) in
    let bytes : (λ i. (timings_at vs i).bytes) ≡ bytes_at units = fun_ext (λ i. bytes_is j vs i) in
    let count : length vs ≡ length (map timed_unit (map (lowered j) vs)) = sym (length-map (map (lowered j) vs) timed_unit ∙ length-map vs (lowered j)) in
    let timed : IsTimed p units (length vs) = record {
      times = q.times;
      has_times = record { least = q.has_times.least; below = q.has_times.below; low = λ i lt. q.has_times.low i lt ∙ input_is j vs i };
      is_schedule = subst (λ (b : ℕ → ℕ). IsSchedule p b q.times (length vs)) bytes q.is_schedule;
      outputs = λ i lt. output_is (out_of p i % 65536) j vs i (f.outputs i lt);
    } in
    subst (IsTimed p units) count timed

first_same : (j : ℕ) (sync : Option MajorSync) (p : Pace) (times : List ℕ) (us : List Unit_of) → length times ≡ length us → first_sync (map (lowered j) (retimed_from sync p 0 times us)) ≡ first_sync us
first_same j sync p times [] e = refl
first_same j sync p [] (u ∷ us) e = absurd (omega (arith, e))
first_same j sync p (t ∷ times) (u ∷ us) e = refl

pub retimed_timed : (j k : ℕ) (bytes : List ℕ) (us vs ws : List Unit_of) → j ≤ k → IsHighest k bytes us → IsRetimed us vs → Stream (whole j) (start j) j (bits_of bytes) ws
    → KeepTiming (left_behind j (map (lowered j) vs)).sync (map (lowered j) vs)
retimed_timed j k bytes us vs ws le h r s =
    let sync = first_sync us in
    let plays = plays_retimed j k bytes us vs ws le h r s in
    let first : first_sync (map (lowered j) vs) ≡ sync =
    ap (λ (xs : List Unit_of). first_sync (map (lowered j) xs)) r.units_are ∙ first_same j sync (pace_in sync) r.times us (r.begin.as_many ∙ length-map us length_of) in
    let left = (left_is j (bits_of (units_bytes vs)) [] (map (lowered j) vs) plays.stream.units.begins).sync ∙ first in
    subst (λ (o : Option MajorSync). KeepTiming o (map (lowered j) vs)) (sym left) (keeps_timing j sync vs (retimed_fit k bytes us vs h r))
