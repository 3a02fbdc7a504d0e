use Rattle.std.proofs.Common.{◌≡◌, ◌≤◌, ◌++◌, length, take, arith, ℤ, pos, get_or, to_z, of_z, w32, FitsSigned, rules, ap, ◌∙◌, sym, refl, subst}
use Rattle.std.proofs.Math.Seq.{drop-cons}
use Rattle.std.proofs.lemmas.Int.{to_z-of_z}
use Rattle.std.proofs.lemmas.List.{append-nil, drop_all}
use Rattle.mlp_predict.specs.Prediction.{Filters, Past, reduced, residuals_of, past_after, latest}
use Rattle.mlp_predict.proofs.Blocks.{residuals_step, past_step_seen, latest_all, refuted, fit_step}
use Rattle.mlp_predict.proofs.predictor.Predictor.reduce_by.Goals as goal

pub loop-i-init : goal.loop-i-init
loop-i-init g c = record {
  values = refl;
  fit = λ k d h. absurd (omega arith);
  past = latest_all g.row.F g.row.I c.args.self.now (rw (← c.self.view_is) c.self.invariant.0) (rw (← c.self.view_is) c.self.invariant.1);
}

pub loop-i-preserved : goal.loop-i-preserved
loop-i-preserved g c =
    let f : Filters = record { fir = c.args.fir.now; iir = c.args.iir.now; shift = c.args.shift } in
    let past : Past = c.loop-i.self in
    let x : ℤ = get_or c.args.samples.now c.loop-i.i (pos 0) in
    let fits : FitsSigned w32 x = search rules in
    let same : to_z w32 (of_z w32 x) ≡ x = to_z-of_z w32 x fits in
    let value : c.in-Some.residual ≡ reduced f past c.args.step x = c.in-Some.ensures.value ∙ ap (reduced f past c.args.step) same in
    let fitting : FitsSigned w32 c.in-Some.residual = subst (FitsSigned w32) (sym c.in-Some.ensures.value) (c.in-Some.ensures.fits.0 refl) in
    let word : to_z w32 (of_z w32 c.in-Some.residual) ≡ c.in-Some.residual = to_z-of_z w32 c.in-Some.residual fitting in
    let after : c.reduced.new.self ≡ latest g.row.F g.row.I (past_after f past x) = c.in-Some.ensures.past ∙ ap (λ z. latest g.row.F g.row.I (past_after f past z)) same in
    record {
      values = rw word
          (residuals_step g.row.F g.row.I f past c.args.step c.args.samples.now c.loop-i.residuals _ c.loop-i.i c.in-Some.residual c.reduced.new.self
          (omega arith) (omega arith) c.loop-i-test.true (omega arith) value after c.loop-i.invariant.values);
      fit = rw word (fit_step (FitsSigned w32) c.loop-i.residuals c.loop-i.i c.in-Some.residual (omega arith) fitting c.loop-i.invariant.fit);
      past = past_step_seen g.row.F g.row.I f c.args.self.now past c.args.samples.now c.loop-i.i c.reduced.new.self
          (omega arith) (omega arith) c.loop-i-test.true after c.loop-i.invariant.past;
    }

pub returns-in-None-clause-fit : goal.returns-in-None-clause-fit
returns-in-None-clause-fit g c =
    let f : Filters = record { fir = c.args.fir.now; iir = c.args.iir.now; shift = c.args.shift } in
    let past : Past = c.loop-i.self in
    let x : ℤ = get_or c.args.samples.now c.loop-i.i (pos 0) in
    let fits : FitsSigned w32 x = search rules in
    let same : to_z w32 (of_z w32 x) ≡ x = to_z-of_z w32 x fits in
    let split = ap (λ ys. take c.loop-i.i c.loop-i.residuals ++ residuals_of f past c.args.step ys) (sym (drop-cons c.args.samples.now c.loop-i.i (pos 0) c.loop-i-test.true)) ∙ c.loop-i.invariant.values in (
      λ h. absurd (cc),
      λ h. c.in-None.ensures.fits.1 (rw same (refuted (FitsSigned w32) (take c.loop-i.i c.loop-i.residuals) _ _ (reduced f past c.args.step x) split h)),
    )

pub returns-clause-fit : goal.returns-clause-fit
returns-clause-fit g c =
    let f : Filters = record { fir = c.args.fir.now; iir = c.args.iir.now; shift = c.args.shift } in
    let done : length c.args.samples.now ≤ c.loop-i.i = omega arith in
    let whole : take c.loop-i.i c.loop-i.residuals ≡ residuals_of f c.args.self.now c.args.step c.args.samples.now =
    sym (append-nil (take c.loop-i.i c.loop-i.residuals))
    ∙ ap (λ ys. take c.loop-i.i c.loop-i.residuals ++ residuals_of f c.loop-i.self c.args.step ys) (sym (drop_all c.loop-i.i c.args.samples.now done))
    ∙ c.loop-i.invariant.values in
    (λ _. rw (← whole) c.loop-i.invariant.fit, λ _. refl)
