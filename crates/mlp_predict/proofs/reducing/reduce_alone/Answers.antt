use Rattle.std.proofs.Common.{◌≡◌, ◌≤◌, ◌<◌, ◌+◌, ◌++◌, length, take, reverse, List, [], arith, ℤ, pos, get_or, to_z, of_z, w32, w64, FitsSigned, rules, ap, ◌∙◌, sym, refl, subst}
use Rattle.std.proofs.lemmas.Int.{to_z-of_z}
use Rattle.std.proofs.lemmas.List.{append-nil, drop_all, take_all}
use Rattle.mlp_predict.specs.Prediction.{Filters, Past, predicted, reduced, residuals_of}
use Rattle.mlp_predict.proofs.Blocks.{refuted, fit_step}
use Rattle.mlp_predict.proofs.AloneLaws.{fir_alone, past_by}
use Rattle.mlp_predict.proofs.ReducingLaws.{left_at, left_first, left_step}
use Rattle.mlp_predict.proofs.reducing.reduce_alone.Goals as goal

pub loop-i-init : goal.loop-i-init
loop-i-init g c = record {
  values = refl;
  fit = λ k d h. absurd (omega arith);
}

pub loop-i-preserved : goal.loop-i-preserved
loop-i-preserved g c =
    let fs : List ℤ = reverse c.args.fir.now in
    let f : Filters = fir_alone fs c.args.shift in
    let xs = c.args.outputs.now in
    let i = c.loop-i.i in
    let past : Past = past_by (reverse (take (16 + i) xs)) [] in
    let x : ℤ = get_or xs (16 + i) (pos 0) in
    let fits : FitsSigned w32 x = search rules in
    let same : to_z w32 (of_z w32 x) ≡ x = to_z-of_z w32 x fits in
    let prediction : to_z w64 (of_z w64 c.predict_alone-prediction.result) ≡ predicted f past =
    to_z-of_z w64 c.predict_alone-prediction.result (record { sfits = c.predict_alone-prediction.type_inv }) ∙ c.predict_alone-prediction.ensures.value in
    let value : c.in-Some.residual ≡ reduced f past c.args.step x = cc (c.in-Some.ensures.value, prediction, same) in
    let fitting : FitsSigned w32 c.in-Some.residual = subst (FitsSigned w32) (sym c.in-Some.ensures.value) (c.in-Some.ensures.fits.0 refl) in
    let word : to_z w32 (of_z w32 c.in-Some.residual) ≡ c.in-Some.residual = to_z-of_z w32 c.in-Some.residual fitting in
    record {
      values = rw word (left_step fs c.args.shift c.args.step xs c.loop-i.residuals _ i c.in-Some.residual (omega arith) (omega arith) value c.loop-i.invariant.values);
      fit = rw word (fit_step (FitsSigned w32) c.loop-i.residuals i c.in-Some.residual (omega arith) fitting c.loop-i.invariant.fit);
    }

pub returns-in-None-clause-fit : goal.returns-in-None-clause-fit
returns-in-None-clause-fit g c =
    let fs : List ℤ = reverse c.args.fir.now in
    let f : Filters = fir_alone fs c.args.shift in
    let xs = c.args.outputs.now in
    let i = c.loop-i.i in
    let past : Past = past_by (reverse (take (16 + i) xs)) [] in
    let x : ℤ = get_or xs (16 + i) (pos 0) in
    let fits : FitsSigned w32 x = search rules in
    let same : to_z w32 (of_z w32 x) ≡ x = to_z-of_z w32 x fits in
    let prediction : to_z w64 (of_z w64 c.predict_alone-prediction.result) ≡ predicted f past =
    to_z-of_z w64 c.predict_alone-prediction.result (record { sfits = c.predict_alone-prediction.type_inv }) ∙ c.predict_alone-prediction.ensures.value in
    let here : 16 + i < length xs = omega arith in
    let split = ap (λ (ys : List ℤ). take i c.loop-i.residuals ++ ys) (sym (left_first fs c.args.shift c.args.step xs (16 + i) here)) ∙ c.loop-i.invariant.values in (
      λ h. absurd (cc),
      λ h. c.in-None.ensures.fits.1 (rw (same, prediction) (refuted (FitsSigned w32) (take i c.loop-i.residuals) _ _ (reduced f past c.args.step x) split h)),
    )

pub returns-clause-fit : goal.returns-clause-fit
returns-clause-fit g c =
    let fs : List ℤ = reverse c.args.fir.now in
    let xs = c.args.outputs.now in
    let i = c.loop-i.i in
    let done : length xs ≤ 16 + i = omega arith in
    let whole : take i c.loop-i.residuals ≡ left_at fs c.args.shift c.args.step xs 16 =
    sym (append-nil (take i c.loop-i.residuals))
    ∙ ap (λ (ys : List ℤ). take i c.loop-i.residuals ++ residuals_of (fir_alone fs c.args.shift) (past_by (reverse (take (16 + i) xs)) []) c.args.step ys) (sym (drop_all (16 + i) xs done))
    ∙ c.loop-i.invariant.values in
    (λ _. rw (← whole) c.loop-i.invariant.fit, λ _. refl)

pub returns-clause-values : goal.returns-clause-values
returns-clause-values g c = λ _.
    let fs : List ℤ = reverse c.args.fir.now in
    let xs = c.args.outputs.now in
    let i = c.loop-i.i in
    let done : length xs ≤ 16 + i = omega arith in
    sym (take_all i c.loop-i.residuals (omega arith))
    ∙ sym (append-nil (take i c.loop-i.residuals))
    ∙ ap (λ (ys : List ℤ). take i c.loop-i.residuals ++ residuals_of (fir_alone fs c.args.shift) (past_by (reverse (take (16 + i) xs)) []) c.args.step ys) (sym (drop_all (16 + i) xs done))
    ∙ c.loop-i.invariant.values
