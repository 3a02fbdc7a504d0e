use Rattle.std.proofs.Common.{◌≡◌, pos, ◌*ℤ◌, ◌+ℤ◌, ◌*◌, ◌%◌, ◌^◌, ◌<◌, FitsSigned, w64, to_z, arith}
use Rattle.std.proofs.lemmas.Int.{ints, to_z-of_z}
use Rattle.std.proofs.Math.Pow.{pow-lt}
use Rattle.mlp_levinson.proofs.Bounds.{scaled_bounds}
use Rattle.mlp_levinson.proofs.filters.scaled.Goals as goal

pub overflow_mul-result : goal.overflow_mul-result
overflow_mul-result c =
    let fa : FitsSigned w64 c.args.coefficient = c.ranges.coefficient in
    let p : 2 ^ c.args.shift < 2 ^ 16 = pow-lt c.requires.shift in
    let e : to_z w64 (1 * 2 ^ c.args.shift % 18446744073709551616) ≡ pos (2 ^ c.args.shift) = omega (arith, ints) in
    let b = scaled_bounds c.args.shift c.args.coefficient c.requires.shift c.requires.small in
    rw e (rw (to_z-of_z w64 c.args.coefficient fa) (omega (arith, ints, b.0, b.1)))

pub overflow_add-result : goal.overflow_add-result
overflow_add-result c =
    let fa : FitsSigned w64 c.args.coefficient = c.ranges.coefficient in
    let p : 2 ^ c.args.shift < 2 ^ 16 = pow-lt c.requires.shift in
    let e : to_z w64 (1 * 2 ^ c.args.shift % 18446744073709551616) ≡ pos (2 ^ c.args.shift) = omega (arith, ints) in
    let b = scaled_bounds c.args.shift c.args.coefficient c.requires.shift c.requires.small in
    let fm : FitsSigned w64 (c.args.coefficient *ℤ pos (2 ^ c.args.shift)) = omega (arith, ints, b.0, b.1) in
    rw e (simp to_z-of_z (omega (arith, ints, b.0, b.1)))

pub returns : goal.returns
returns c =
    let fa : FitsSigned w64 c.args.coefficient = c.ranges.coefficient in
    let p : 2 ^ c.args.shift < 2 ^ 16 = pow-lt c.requires.shift in
    let e : to_z w64 (1 * 2 ^ c.args.shift % 18446744073709551616) ≡ pos (2 ^ c.args.shift) = omega (arith, ints) in
    let b = scaled_bounds c.args.shift c.args.coefficient c.requires.shift c.requires.small in
    let fm : FitsSigned w64 (c.args.coefficient *ℤ pos (2 ^ c.args.shift)) = omega (arith, ints, b.0, b.1) in
    let fs : FitsSigned w64 (c.args.coefficient *ℤ pos (2 ^ c.args.shift) +ℤ pos 524288) = omega (arith, ints, b.0, b.1) in
    rw e (simp to_z-of_z)
