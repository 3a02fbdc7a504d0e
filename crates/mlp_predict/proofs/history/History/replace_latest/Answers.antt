use Rattle.std.proofs.Common.{◌≡◌, ◌^◌, length, get_or, ℤ, pos, ◌*ℤ◌, to_z, of_z, w32, FitsSigned, rules, arith, ap, ◌∙◌}
use Rattle.std.proofs.lemmas.Int.{to_z-of_z}
use Rattle.mlp_predict.specs.Filters.{scaled}
use Rattle.mlp_predict.proofs.Scaling.{length-scaled, get_or-scaled, state_set}
use Rattle.mlp_predict.proofs.history.History.replace_latest.Goals as goal

pub times-requires-clause-fits : goal.times-requires-clause-fits
times-requires-clause-fits g c =
    let i = c.loop-i.i in
    let v : ℤ = get_or c.args.values.now i (pos 0) in
    let fits : FitsSigned w32 v = search rules in
    let small : FitsSigned w32 (get_or (scaled c.args.shift c.args.values.now) i (pos 0)) = c.requires.fit i (pos 0) (omega (arith, length-scaled c.args.shift c.args.values.now)) in
    rw (to_z-of_z w32 v fits) (rw (get_or-scaled c.args.shift c.args.values.now i (pos 0) c.loop-i-test.true) at small)

pub loop-i-preserved : goal.loop-i-preserved
loop-i-preserved g c =
    let i = c.loop-i.i in
    let v : ℤ = get_or c.args.values.now i (pos 0) in
    let fits : FitsSigned w32 v = search rules in
    let word : to_z w32 (of_z w32 c.times.result) ≡ v *ℤ pos (2 ^ c.args.shift) =
    to_z-of_z w32 c.times.result (record { sfits = c.times.type_inv }) ∙ c.times.ensures ∙ ap (λ z. z *ℤ pos (2 ^ c.args.shift)) (to_z-of_z w32 v fits) in
    rw (c.replace.ensures, word, c.loop-i.invariant) (state_set c.args.shift c.args.values.now c.args.self.now i c.loop-i-test.true (omega (arith, ap length c.as_slice.ensures.value, c.as_slice.ensures.count)))
