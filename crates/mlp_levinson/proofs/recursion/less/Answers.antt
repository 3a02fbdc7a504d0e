use Rattle.std.proofs.Common.{ℤ, ◌-ℤ◌, ◌*ℤ◌, FitsSigned, w64, arith}
use Rattle.std.proofs.lemmas.Int.{ints, to_z-of_z, fits_signed_mul}
use Rattle.std.specs.Int.Signed.{shr_z}
use Rattle.mlp_levinson.proofs.Bounds.{Within, share_within}
use Rattle.mlp_levinson.proofs.recursion.less.Goals as goal

pub returns : goal.returns
returns c =
    let k : ℤ = c.args.k in
    let a : ℤ = c.args.own in
    let o : ℤ = c.args.opposite in
    let fk : FitsSigned w64 k = c.ranges.k in
    let fa : FitsSigned w64 a = c.ranges.own in
    let fo : FitsSigned w64 o = c.ranges.opposite in
    let s : Within 268435456 (shr_z (k *ℤ o) 1048576) = share_within 268435456 k o c.requires.reflection (record { low = c.requires.opposite.low; high = c.requires.opposite.high }) in
    let fp : FitsSigned w64 (k *ℤ o) = fits_signed_mul w64 k o 1048576 268435456 (omega (arith, ints, c.requires.reflection.low, c.requires.reflection.high))
    (omega (arith, ints, c.requires.opposite.low, c.requires.opposite.high)) (omega arith) in
    let fs : FitsSigned w64 (shr_z (k *ℤ o) 1048576) = omega (arith, ints, s.low, s.high) in
    let fr : FitsSigned w64 (a -ℤ shr_z (k *ℤ o) 1048576) = omega (arith, ints, s.low, s.high, c.requires.own.low, c.requires.own.high) in
    simp to_z-of_z
