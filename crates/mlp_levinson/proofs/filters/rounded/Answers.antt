use Rattle.std.proofs.Common.{◌≡◌, ℤ, pos, ◌+ℤ◌, ◌*ℤ◌, ◌^◌, FitsSigned, w32, w64, arith, ap, ◌∙◌}
use Rattle.std.proofs.lemmas.Int.{ints, to_z-of_z}
use Rattle.std.specs.Int.Signed.{shr_z}
use Rattle.mlp_levinson.proofs.Bounds.{rounded_bounds, scaled_bounds}
use Rattle.mlp_levinson.proofs.filters.rounded.Goals as goal

pub overflow_cast-result : goal.overflow_cast-result
overflow_cast-result c =
    let v : ℤ = c.args.coefficient *ℤ pos (2 ^ c.args.shift) +ℤ pos 524288 in
    let is : c.scaled.result ≡ v = c.scaled.ensures ∙ ap (λ z. z *ℤ pos (2 ^ c.args.shift) +ℤ pos 524288) (to_z-of_z w64 c.args.coefficient c.ranges.coefficient) in
    let b = scaled_bounds c.args.shift c.args.coefficient c.requires.shift c.requires.small in
    let r = rounded_bounds c.args.shift c.args.coefficient c.requires.shift c.requires.small in
    let fs : FitsSigned w64 v = omega (arith, ints, b.0, b.1) in
    let fr : FitsSigned w64 (shr_z v 1048576) = omega (arith, ints, r.0, r.1) in
    rw is (simp to_z-of_z (omega (arith, ints, r.0, r.1)))

pub returns : goal.returns
returns c =
    let v : ℤ = c.args.coefficient *ℤ pos (2 ^ c.args.shift) +ℤ pos 524288 in
    let is : c.scaled.result ≡ v = c.scaled.ensures ∙ ap (λ z. z *ℤ pos (2 ^ c.args.shift) +ℤ pos 524288) (to_z-of_z w64 c.args.coefficient c.ranges.coefficient) in
    let b = scaled_bounds c.args.shift c.args.coefficient c.requires.shift c.requires.small in
    let r = rounded_bounds c.args.shift c.args.coefficient c.requires.shift c.requires.small in
    let fs : FitsSigned w64 v = omega (arith, ints, b.0, b.1) in
    let fr : FitsSigned w64 (shr_z v 1048576) = omega (arith, ints, r.0, r.1) in
    let fc : FitsSigned w32 (shr_z v 1048576) = omega (arith, ints, r.0, r.1) in
    rw is (simp to_z-of_z)
