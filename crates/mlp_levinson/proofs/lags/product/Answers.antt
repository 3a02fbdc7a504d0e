use Rattle.std.proofs.Common.{w32, w64, FitsSigned, rules, arith}
use Rattle.std.proofs.lemmas.Int.{ints}
use Rattle.mlp_levinson.proofs.Products.{product_at, product26}
use Rattle.mlp_levinson.proofs.lags.product.Goals as goal

pub returns-clause-low : goal.returns-clause-low
returns-clause-low c =
    let x = c.args.a in
    let y = c.args.b in
    let f : FitsSigned w32 x = search rules in
    let g : FitsSigned w32 y = search rules in
    let p = product26 x y c.requires.a c.requires.b in
    rw (product_at w64 w32 x y c.from.result c.from-2.result f g (omega (arith, ints, f)) (omega (arith, ints, g)) (omega (arith, ints, p.0, p.1)) c.from.ensures c.from-2.ensures) p.0

pub returns-clause-high : goal.returns-clause-high
returns-clause-high c =
    let x = c.args.a in
    let y = c.args.b in
    let f : FitsSigned w32 x = search rules in
    let g : FitsSigned w32 y = search rules in
    let p = product26 x y c.requires.a c.requires.b in
    rw (product_at w64 w32 x y c.from.result c.from-2.result f g (omega (arith, ints, f)) (omega (arith, ints, g)) (omega (arith, ints, p.0, p.1)) c.from.ensures c.from-2.ensures) p.1
