use Rattle.std.proofs.Common.{ℤ, pos, ◌-ℤ◌, ◌*ℤ◌, FitsSigned, w64, arith}
use Rattle.std.proofs.lemmas.Int.{ints, to_z-of_z}
use Rattle.mlp_levinson.proofs.Bounds.{factor_bounds}
use Rattle.mlp_levinson.proofs.recursion.factor.Goals as goal

pub returns-clause-value : goal.returns-clause-value
returns-clause-value c =
    let k : ℤ = c.args.k in
    let b = factor_bounds k c.requires in
    let fk : FitsSigned w64 k = c.ranges.k in
    let fp : FitsSigned w64 (k *ℤ k) = omega (arith, ints, b.0, b.1) in
    let fr : FitsSigned w64 (pos 1099511627776 -ℤ k *ℤ k) = omega (arith, ints, b.0, b.1) in
    simp to_z-of_z

pub returns-clause-low : goal.returns-clause-low
returns-clause-low c =
    let k : ℤ = c.args.k in
    let b = factor_bounds k c.requires in
    let fk : FitsSigned w64 k = c.ranges.k in
    let fp : FitsSigned w64 (k *ℤ k) = omega (arith, ints, b.0, b.1) in
    let fr : FitsSigned w64 (pos 1099511627776 -ℤ k *ℤ k) = omega (arith, ints, b.0, b.1) in
    simp to_z-of_z b.0

pub returns-clause-high : goal.returns-clause-high
returns-clause-high c =
    let k : ℤ = c.args.k in
    let b = factor_bounds k c.requires in
    let fk : FitsSigned w64 k = c.ranges.k in
    let fp : FitsSigned w64 (k *ℤ k) = omega (arith, ints, b.0, b.1) in
    let fr : FitsSigned w64 (pos 1099511627776 -ℤ k *ℤ k) = omega (arith, ints, b.0, b.1) in
    simp to_z-of_z b.1
