use Rattle.std.proofs.Common.{ℕ, ◌-◌, length, get_or, ap, ◌∙◌, refl}
use Rattle.mlp_matrix.specs.Matrix.{weighted, has_bit}
use Rattle.mlp_matrix.proofs.Rows.{row_prepared, row_step}
use Rattle.mlp_matrix.proofs.matrix.apply.Goals as goal

pub loop-i-preserved : goal.loop-i-preserved
loop-i-preserved c =
    let row = c.index-rows-i.result in
    let step : ℕ = get_or c.args.steps.now c.from-dest.result 0 in
    row_step c.args.rows.now c.args.steps.now c.args.bypass c.loop-i.i row c.loop-i.frame c.put_weighted.new.frame _ c.loop-i-test.true c.index-rows-i.is
    (c.put_weighted.ensures ∙ ap (λ b. weighted c.weights-weights.result c.from-dest.result step b c.loop-i.frame) c.has_bit.ensures
    ∙ row_prepared c.args.steps.now row c.weights-weights.result c.as_slice.result.now (10 - length c.as_slice.result.now) c.from-dest.result step (has_bit c.args.bypass c.loop-i.i) c.loop-i.frame
    c.weights-weights.ensures.value c.as_slice.ensures.value c.from-dest.ensures refl)
    c.loop-i.invariant
