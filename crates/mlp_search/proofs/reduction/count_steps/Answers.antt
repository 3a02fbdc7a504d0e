use Rattle.std.proofs.Common.{◌≡◌, ℤ, pos, map, get_or, arith, sym, ap, ◌∙◌}
use Rattle.std.proofs.lemmas.Int.{ints}
use Rattle.std.proofs.lemmas.List.{ext_get_or, length-map}
use Rattle.std.proofs.Math.ListN.{get_or-map}
use Rattle.mlp_search.specs.Folded.{stepped}
use Rattle.mlp_search.proofs.reduction.count_steps.Goals as goal

pub returns : goal.returns
returns c =
    let rs = c.loop-residual.residuals in
    let zero : stepped c.args.step (pos 0) ≡ pos 0 = omega (arith, ints) in
    ext_get_or (pos 0) (map (stepped c.args.step) c.loop-residual.residuals) c.args.residuals.now
    (omega (arith, length-map c.loop-residual.residuals (stepped c.args.step), c.loop-residual.auto.residuals))
    (λ i lt.
    ap (λ (d : ℤ). get_or (map (stepped c.args.step) c.loop-residual.residuals) i d) (sym zero)
    ∙ get_or-map (stepped c.args.step) c.loop-residual.residuals i (pos 0)
    ∙ c.loop-residual.invariant.counted i (omega (arith, lt, length-map c.loop-residual.residuals (stepped c.args.step), c.loop-residual-test.false)))
