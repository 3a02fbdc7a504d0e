use Rattle.std.proofs.Common.{◌≡◌, ℕ, ◌-◌, ◌∷◌, ◌↔◌, length, ℤ, ◌+ℤ◌, ◌-ℤ◌, w32, ap, ◌∙◌, subst, FitsSigned, IsSome, IfSome, OnSome, Option, Some, None}
use Rattle.std.proofs.lemmas.Int.{to_z-of_z}
use Rattle.mlp_arith.specs.Words.{clear, wrap}
use Rattle.mlp_arith.proofs.Residues.{clear_back}
use Rattle.mlp_predict.specs.Prediction.{Filters, predicted, past_after, latest}
use Rattle.mlp_predict.specs.Filters.{filters_of}
use Rattle.mlp_predict.proofs.Blocks.{prepared}
use Rattle.mlp_predict.proofs.predictor.Predictor.reduce.Goals as goal

comes_back : (o : Option ℤ) (q : ℕ) (p x : ℤ) → FitsSigned w32 x → IfSome o (λ r. r ≡ x -ℤ clear q p) → IfSome o (λ r. clear q x ≡ x → wrap (clear q (p +ℤ r)) ≡ x)
comes_back None q p x f h = tt
comes_back (Some r) q p x f h = λ e. ap (λ z. wrap (clear q (p +ℤ z))) h ∙ clear_back q p x e f

pub returns-clause-fits : goal.returns-clause-fits
returns-clause-fits g c =
    let P : ℤ → Type 0 = λ z. IsSome c.reduced.result ↔ FitsSigned w32 z in
    subst P (ap (λ x. x -ℤ clear c.args.step (predicted (record { fir = c.taps-fir_taps.result; iir = c.taps-iir_taps.result; shift = c.shift_of.result }) c.args.self.now)) (to_z-of_z w32 c.args.sample c.ranges.sample)
    ∙ ap (λ p. c.args.sample -ℤ clear c.args.step p) (prepared c.args.fir.now c.args.iir.now c.taps-fir_taps.result c.taps-iir_taps.result c.as_slice.result.now c.as_slice-2.result.now (g.row.F - length c.as_slice.result.now)
    (g.row.I - length c.as_slice-2.result.now) c.shift_of.result c.as_slice.ensures.value c.as_slice-2.ensures.value c.taps-fir_taps.ensures.value c.taps-iir_taps.ensures.value c.shift_of.ensures c.args.self.now)) c.reduced.ensures.fits

pub returns-clause-value : goal.returns-clause-value
returns-clause-value g c =
    let P : ℤ → Type 0 = λ z. IfSome c.reduced.result (λ r. r ≡ z) in
    subst P (ap (λ x. x -ℤ clear c.args.step (predicted (record { fir = c.taps-fir_taps.result; iir = c.taps-iir_taps.result; shift = c.shift_of.result }) c.args.self.now)) (to_z-of_z w32 c.args.sample c.ranges.sample)
    ∙ ap (λ p. c.args.sample -ℤ clear c.args.step p) (prepared c.args.fir.now c.args.iir.now c.taps-fir_taps.result c.taps-iir_taps.result c.as_slice.result.now c.as_slice-2.result.now (g.row.F - length c.as_slice.result.now)
    (g.row.I - length c.as_slice-2.result.now) c.shift_of.result c.as_slice.ensures.value c.as_slice-2.ensures.value c.taps-fir_taps.ensures.value c.taps-iir_taps.ensures.value c.shift_of.ensures c.args.self.now)) c.reduced.ensures.value

pub returns-clause-back : goal.returns-clause-back
returns-clause-back g c =
    comes_back c.reduced.result c.args.step (predicted (filters_of c.args.fir.now c.args.iir.now) c.args.self.now) c.args.sample c.ranges.sample (returns-clause-value g c)

pub returns-clause-past : goal.returns-clause-past
returns-clause-past g c =
    let x : ℤ = c.args.sample in
    let f : Filters = record { fir = c.taps-fir_taps.result; iir = c.taps-iir_taps.result; shift = c.shift_of.result } in
    let P : ℤ → Type 0 = λ p. OnSome c.reduced.result (c.reduced.new.self ≡ latest g.row.F g.row.I (record { outputs = x ∷ c.args.self.now.outputs; differences = wrap (x -ℤ p) ∷ c.args.self.now.differences })) in
    let Q : ℤ → Type 0 = λ y. OnSome c.reduced.result (c.reduced.new.self ≡ latest g.row.F g.row.I (past_after f c.args.self.now y)) in
    subst P (prepared c.args.fir.now c.args.iir.now c.taps-fir_taps.result c.taps-iir_taps.result c.as_slice.result.now c.as_slice-2.result.now (g.row.F - length c.as_slice.result.now)
    (g.row.I - length c.as_slice-2.result.now) c.shift_of.result c.as_slice.ensures.value c.as_slice-2.ensures.value c.taps-fir_taps.ensures.value c.taps-iir_taps.ensures.value c.shift_of.ensures c.args.self.now) (subst Q
    (to_z-of_z w32 c.args.sample c.ranges.sample) c.reduced.ensures.past)
