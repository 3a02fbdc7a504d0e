use Rattle.std.proofs.Common.{◌≡◌, ℕ, ◌-◌, ℤ, pos, ◌+ℤ◌, ◌*ℤ◌, length, take, get_or, w64, FitsSigned, rules, arith, ap, ◌∙◌}
use Rattle.std.specs.Int.{w128}
use Rattle.std.proofs.lemmas.Int.{ints}
use Rattle.mlp_predict.specs.Prediction.{dot}
use Rattle.mlp_predict.proofs.Dots.{dot_more}
use Rattle.mlp_levinson.specs.Computed.{IsLag, IsSmall, lags_down}
use Rattle.mlp_levinson.proofs.Products.{product_at, product_lag}
use Rattle.mlp_levinson.proofs.Levels.{lags_down-at, length-lags_down}
use Rattle.mlp_levinson.proofs.recursion.predicted.Goals as goal

pub overflow_add-sum : goal.overflow_add-sum
overflow_add-sum c =
    let x : ℤ = get_or c.args.coefficients.now c.loop-j.j (pos 0) in
    let m : ℕ = length c.args.coefficients.now in
    let y : ℤ = get_or c.args.lags.now (m - c.loop-j.j) (pos 0) in
    let f : FitsSigned w64 x = search rules in
    let g : FitsSigned w64 y = search rules in
    let a : IsSmall x = c.requires.small c.loop-j.j (pos 0) c.loop-j-test.true in
    let b : IsLag y = c.requires.lags (m - c.loop-j.j) (pos 0) (omega arith) in
    let p = product_lag x y a b in
    let t = product_at w128 w64 x y c.from.result c.from-in-loop-j.result f g (omega (arith, ints, f)) (omega (arith, ints, g)) (omega (arith, ints, p.0, p.1)) c.from.ensures c.from-in-loop-j.ensures in
    rw t (omega (arith, ints, p.0, p.1))

pub loop-j-preserved : goal.loop-j-preserved
loop-j-preserved c =
    let x : ℤ = get_or c.args.coefficients.now c.loop-j.j (pos 0) in
    let m : ℕ = length c.args.coefficients.now in
    let y : ℤ = get_or c.args.lags.now (m - c.loop-j.j) (pos 0) in
    let f : FitsSigned w64 x = search rules in
    let g : FitsSigned w64 y = search rules in
    let a : IsSmall x = c.requires.small c.loop-j.j (pos 0) c.loop-j-test.true in
    let b : IsLag y = c.requires.lags (m - c.loop-j.j) (pos 0) (omega arith) in
    let p = product_lag x y a b in
    let t = product_at w128 w64 x y c.from.result c.from-in-loop-j.result f g (omega (arith, ints, f)) (omega (arith, ints, g)) (omega (arith, ints, p.0, p.1)) c.from.ensures c.from-in-loop-j.ensures in
    let more = dot_more c.args.coefficients.now (lags_down c.args.lags.now m) c.loop-j.j c.loop-j-test.true (omega (arith, length-lags_down c.args.lags.now m)) in
    let y_is : get_or (lags_down c.args.lags.now m) c.loop-j.j (pos 0) ≡ y = lags_down-at c.args.lags.now m c.loop-j.j c.loop-j-test.true in
    let e = more ∙ ap (λ z. dot (take c.loop-j.j c.args.coefficients.now) (lags_down c.args.lags.now m) +ℤ x *ℤ z) y_is in
    record {
      sum = rw t (omega (arith, ints, p.0, p.1, e));
      low = rw t (omega (arith, ints, p.0, p.1));
      high = rw t (omega (arith, ints, p.0, p.1));
    }
