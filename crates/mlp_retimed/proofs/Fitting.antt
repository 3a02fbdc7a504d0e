-- Retimed units have the times of the earliest schedule, and their restarts tell when they are output.
use Rattle.std.proofs.Math.Path.{fun_ext}
use Rattle.std.proofs.Common.{◌≡◌, ℕ, zero, suc, ◌+◌, ◌%◌, List, [], ◌∷◌, length, map, sym, refl, ap, subst, subst₂, ◌∙◌, arith}
use Rattle.std.specs.Prelude.{All, slice_index}
use Rattle.std.proofs.lemmas.List.{length-map}
use Rattle.mlp_contents.specs.Units.{Unit_of}
use Rattle.mlp_fifo.specs.Schedule.{out_of, IsEarliest}
use Rattle.mlp_cut.specs.Cut.{first_sync}
use Rattle.mlp_retime.specs.Retimed.{length_of, retimed_from, pace_in, IsRetimed}
use Rattle.mlp_retime.specs.Laws.{IsHighest}
use Rattle.mlp_retimed.specs.Fits.{timings_at, Fit}
use Rattle.mlp_retimed.proofs.Restarts.{Is}
use Rattle.mlp_retimed.proofs.Law.{fit_retimed}

bytes_at_is : (vs : List Unit_of) (i : ℕ) → slice_index (map length_of vs) i ≡ (timings_at vs i).bytes
bytes_at_is [] i = refl
bytes_at_is (v ∷ vs) zero = refl
bytes_at_is (v ∷ vs) (suc i) = bytes_at_is vs i

pub retimed_fit : (k : ℕ) (bytes : List ℕ) (us vs : List Unit_of) → IsHighest k bytes us → IsRetimed us vs → Fit (first_sync us) vs
retimed_fit k bytes us vs h r =
    let sync = first_sync us in
    let p = pace_in sync in
    let these = retimed_from sync p 0 r.times us in
    let fit = fit_retimed k k bytes us vs us (omega arith) h r h.stream in
    let lengths : slice_index (map length_of us) ≡ (λ i. (timings_at these i).bytes) = fun_ext (λ i. ap (λ (xs : List ℕ). slice_index xs i) (sym fit.lengths) ∙ bytes_at_is these i) in
    let count : length (map length_of us) ≡ length these = ap (λ (xs : List ℕ). length xs) (sym fit.lengths) ∙ length-map these length_of in
    let long : length these ≡ length us = sym count ∙ length-map us length_of in
    let fits : Fit sync these = record {
      times = slice_index r.times;
      earliest = subst₂ (λ (b : ℕ → ℕ) (n : ℕ). IsEarliest p b (slice_index r.times) n) lengths count r.begin.earliest;
      inputs = λ i lt. fit.inputs i (omega (arith, lt, long));
      outputs = λ i lt. let e : 0 + i ≡ i = omega arith in subst (λ (m : ℕ). All (Is (out_of p m % 65536)) (timings_at these i).outputs) e (fit.outputs i (omega (arith, lt, long)));
    } in
    subst (Fit sync) (sym r.units_are) fits
