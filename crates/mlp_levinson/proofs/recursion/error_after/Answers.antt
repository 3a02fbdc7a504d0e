use Rattle.std.proofs.Common.{ℤ, pos, ◌-ℤ◌, ◌*ℤ◌, FitsSigned, w64, arith, ap, ◌∙◌}
use Rattle.std.specs.Int.{w128}
use Rattle.std.specs.Int.Signed.{shr_z}
use Rattle.std.proofs.lemmas.Int.{ints, to_z-of_z}
use Rattle.mlp_arith.proofs.Floors.{floor_le, lt_floor}
use Rattle.mlp_levinson.proofs.Bounds.{whole_bounds}
use Rattle.mlp_levinson.proofs.Products.{product_at}
use Rattle.mlp_levinson.proofs.recursion.error_after.Goals as goal

pub overflow_cast-result : goal.overflow_cast-result
overflow_cast-result c =
    let e : ℤ = c.args.error in
    let f : ℤ = c.factor.result in
    let fe : FitsSigned w64 e = c.ranges.error in
    let ff : FitsSigned w64 f = record { sfits = c.factor.type_inv } in
    let p = whole_bounds e f c.requires.error c.requires.lag c.factor.ensures.low c.factor.ensures.high in
    let t = product_at w128 w64 e f c.from.result c.from-2.result fe ff (omega (arith, ints, fe)) (omega (arith, ints, ff)) (omega (arith, ints, p.0, p.1)) c.from.ensures c.from-2.ensures in
    let lo = floor_le (e *ℤ f) 1099511627776 (omega arith) in
    let hi = lt_floor (e *ℤ f) 1099511627776 (omega arith) in
    let fw : FitsSigned w128 (shr_z (e *ℤ f) 1099511627776) = omega (arith, ints, p.0, p.1, lo, hi) in
    let fs : FitsSigned w64 (shr_z (e *ℤ f) 1099511627776) = omega (arith, ints, p.0, p.1, p.2, lo, hi, c.requires.lag.high) in
    rw t (simp to_z-of_z fs)

pub returns-clause-value : goal.returns-clause-value
returns-clause-value c =
    let e : ℤ = c.args.error in
    let f : ℤ = c.factor.result in
    let fe : FitsSigned w64 e = c.ranges.error in
    let ff : FitsSigned w64 f = record { sfits = c.factor.type_inv } in
    let p = whole_bounds e f c.requires.error c.requires.lag c.factor.ensures.low c.factor.ensures.high in
    let t = product_at w128 w64 e f c.from.result c.from-2.result fe ff (omega (arith, ints, fe)) (omega (arith, ints, ff)) (omega (arith, ints, p.0, p.1)) c.from.ensures c.from-2.ensures in
    let lo = floor_le (e *ℤ f) 1099511627776 (omega arith) in
    let hi = lt_floor (e *ℤ f) 1099511627776 (omega arith) in
    let fw : FitsSigned w128 (shr_z (e *ℤ f) 1099511627776) = omega (arith, ints, p.0, p.1, lo, hi) in
    let fs : FitsSigned w64 (shr_z (e *ℤ f) 1099511627776) = omega (arith, ints, p.0, p.1, p.2, lo, hi, c.requires.lag.high) in
    rw t (simp to_z-of_z (ap (λ z. shr_z (e *ℤ z) 1099511627776)
    (c.factor.ensures.value ∙ ap (λ z. pos 1099511627776 -ℤ z *ℤ z) (to_z-of_z w64 c.args.k c.ranges.k))))

pub returns-clause-lag : goal.returns-clause-lag
returns-clause-lag c =
    let e : ℤ = c.args.error in
    let f : ℤ = c.factor.result in
    let fe : FitsSigned w64 e = c.ranges.error in
    let ff : FitsSigned w64 f = record { sfits = c.factor.type_inv } in
    let p = whole_bounds e f c.requires.error c.requires.lag c.factor.ensures.low c.factor.ensures.high in
    let t = product_at w128 w64 e f c.from.result c.from-2.result fe ff (omega (arith, ints, fe)) (omega (arith, ints, ff)) (omega (arith, ints, p.0, p.1)) c.from.ensures c.from-2.ensures in
    let lo = floor_le (e *ℤ f) 1099511627776 (omega arith) in
    let hi = lt_floor (e *ℤ f) 1099511627776 (omega arith) in
    let fw : FitsSigned w128 (shr_z (e *ℤ f) 1099511627776) = omega (arith, ints, p.0, p.1, lo, hi) in
    let fs : FitsSigned w64 (shr_z (e *ℤ f) 1099511627776) = omega (arith, ints, p.0, p.1, p.2, lo, hi, c.requires.lag.high) in
    rw t (simp to_z-of_z (record { low = omega (arith, ints, p.0, lo, hi); high = omega (arith, ints, p.2, lo, hi, c.requires.lag.high) }))
