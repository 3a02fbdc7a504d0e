use Rattle.std.proofs.Common.{◌≡◌, get_or, pos, to_z, of_z, w32, arith, ◌∙◌, None}
use Rattle.std.proofs.lemmas.Int.{to_z-of_z}
use Rattle.mlp_predict.specs.Prediction.{IsCoefficient}
use Rattle.mlp_matrix.specs.Matrix.{weight, weights_of}
use Rattle.mlp_matrix.proofs.Weights.{length-weights_of, get_or-weights_of, weight_filled}
use Rattle.mlp_matrix.proofs.row.weights.Goals as goal

pub weight-requires-clause-small : goal.weight-requires-clause-small
weight-requires-clause-small g c =
    let i = c.loop-i.i in
    let small : IsCoefficient (get_or (weights_of c.args.frac c.args.coeffs.now) i (pos 0)) = c.requires.small i (pos 0) (omega (arith, length-weights_of c.args.frac c.args.coeffs.now)) in
    rw (get_or-weights_of c.args.frac c.args.coeffs.now i (pos 0) c.loop-i-test.true) at small

pub loop-i-preserved : goal.loop-i-preserved
loop-i-preserved g c =
    let i = c.loop-i.i in
    let word : to_z w32 (of_z w32 c.weight.result) ≡ weight c.args.frac (get_or c.args.coeffs.now i None) = to_z-of_z w32 c.weight.result (record { sfits = c.weight.type_inv }) ∙ c.weight.ensures in
    rw (word, c.loop-i.invariant) (weight_filled c.args.frac g.row.M c.args.coeffs.now i c.loop-i-test.true c.requires.room)
