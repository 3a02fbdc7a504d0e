use Rattle.std.proofs.Common.{◌≡◌, ◌^◌, get_or, ℤ, pos, ◌*ℤ◌, to_z, of_z, w32, FitsSigned, rules, arith, ap, ◌∙◌}
use Rattle.std.proofs.lemmas.Int.{to_z-of_z}
use Rattle.mlp_predict.specs.Prediction.{IsCoefficient}
use Rattle.mlp_predict.specs.Filters.{scaled}
use Rattle.mlp_predict.proofs.Scaling.{length-scaled, get_or-scaled, filled, coefficient_fits}
use Rattle.mlp_predict.proofs.filters.taps.Goals as goal

pub times-requires-clause-fits : goal.times-requires-clause-fits
times-requires-clause-fits g c =
    let i = c.loop-i.i in
    let v : ℤ = get_or c.args.fields.now i (pos 0) in
    let fits : FitsSigned w32 v = search rules in
    let small : IsCoefficient (get_or (scaled c.args.coeff_shift c.args.fields.now) i (pos 0)) = c.requires.small i (pos 0) (omega (arith, length-scaled c.args.coeff_shift c.args.fields.now)) in
    let here : IsCoefficient (v *ℤ pos (2 ^ c.args.coeff_shift)) = rw (get_or-scaled c.args.coeff_shift c.args.fields.now i (pos 0) c.loop-i-test.true) at small in
    rw (to_z-of_z w32 v fits) (coefficient_fits (v *ℤ pos (2 ^ c.args.coeff_shift)) here)

pub loop-i-preserved : goal.loop-i-preserved
loop-i-preserved g c =
    let i = c.loop-i.i in
    let v : ℤ = get_or c.args.fields.now i (pos 0) in
    let fits : FitsSigned w32 v = search rules in
    let word : to_z w32 (of_z w32 c.times.result) ≡ v *ℤ pos (2 ^ c.args.coeff_shift) =
    to_z-of_z w32 c.times.result (record { sfits = c.times.type_inv }) ∙ c.times.ensures ∙ ap (λ z. z *ℤ pos (2 ^ c.args.coeff_shift)) (to_z-of_z w32 v fits) in
    rw (word, c.loop-i.invariant) (filled c.args.coeff_shift g.row.M c.args.fields.now i c.loop-i-test.true c.requires.room)
