use Rattle.std.proofs.Common.{ℤ, pos, get_or, w32, FitsSigned, rules, arith}
use Rattle.std.proofs.lemmas.Int.{ints}
use Rattle.mlp_predict.specs.Prediction.{IsCoefficient}
use Rattle.mlp_predict.proofs.Dots.{dot_more, product_bounds, product_is_lem}
use Rattle.mlp_predict.proofs.sample.dot.Goals as goal

pub overflow_add-sum : goal.overflow_add-sum
overflow_add-sum c =
    let co : ℤ = get_or c.args.coeffs.now c.loop-i.i (pos 0) in
    let va : ℤ = get_or c.args.values.now c.loop-i.i (pos 0) in
    let f : FitsSigned w32 co = search rules in
    let g : FitsSigned w32 va = search rules in
    let small : IsCoefficient co = c.requires.small c.loop-i.i (pos 0) c.loop-i-test.true in
    rw (product_is_lem co va c.from.result c.from-in-loop-i.result small f g c.from.ensures c.from-in-loop-i.ensures)
    (let b = product_bounds co va small g in omega (arith, ints, b))

pub loop-i-preserved : goal.loop-i-preserved
loop-i-preserved c =
    let co : ℤ = get_or c.args.coeffs.now c.loop-i.i (pos 0) in
    let va : ℤ = get_or c.args.values.now c.loop-i.i (pos 0) in
    let f : FitsSigned w32 co = search rules in
    let g : FitsSigned w32 va = search rules in
    let small : IsCoefficient co = c.requires.small c.loop-i.i (pos 0) c.loop-i-test.true in
    let b = product_bounds co va small g in
    let t = product_is_lem co va c.from.result c.from-in-loop-i.result small f g c.from.ensures c.from-in-loop-i.ensures in
    let more = dot_more c.args.coeffs.now c.args.values.now c.loop-i.i c.loop-i-test.true c.requires.known in
    record {
      sum = rw t (omega (arith, ints, b, more));
      low = rw t (omega (arith, ints, b));
      high = rw t (omega (arith, ints, b));
    }
