use Rattle.std.proofs.Common.{◌≡◌, ℕ, ◌/◌, ◌<◌, ℤ, pos, negsuc, ◌+ℤ◌, ◌*ℤ◌, ◌≤ℤ◌, arith, ◌∙◌, sym, subst}
use Rattle.std.specs.Prelude.{unsigned_abs}
use Rattle.std.proofs.lemmas.Int.{ints}
use Rattle.mlp_arith.specs.Words.{floor_over}
use Rattle.mlp_levinson.specs.Computed.{IsReflection}
use Rattle.mlp_levinson.proofs.Bounds.{limited_is}
use Rattle.mlp_levinson.proofs.Reflections.{reflection_high, reflection_low, reflection_between, quotient_fits, quotient_is}
use Rattle.mlp_levinson.proofs.recursion.reflection_of.Goals as goal

pub returns-then-remainder-greatest-clause-value : goal.returns-then-remainder-greatest-clause-value
returns-then-remainder-greatest-clause-value c =
    let n : ℕ = unsigned_abs c.args.error in
    let some : 0 < n = omega (arith, ints, c.requires.error) in
    let n_is : c.args.error ≡ pos n = omega (arith, ints, c.requires.error) in
    let h : (pos 1048575 *ℤ pos n) ≤ℤ c.args.remainder = grind (arith, ints) in
    sym (reflection_high n c.args.remainder some h)

pub returns-then-remainder-greatest-2-clause-value : goal.returns-then-remainder-greatest-2-clause-value
returns-then-remainder-greatest-2-clause-value c =
    let n : ℕ = unsigned_abs c.args.error in
    let some : 0 < n = omega (arith, ints, c.requires.error) in
    let n_is : c.args.error ≡ pos n = omega (arith, ints, c.requires.error) in
    let h : c.args.remainder ≤ℤ (negsuc 1048574 *ℤ pos n) = grind (arith, ints) in
    sym (reflection_low n c.args.remainder some h)

pub overflow_cast-result : goal.overflow_cast-result
overflow_cast-result c =
    let n : ℕ = unsigned_abs c.args.error in
    let some : 0 < n = omega (arith, ints, c.requires.error) in
    let n_is : c.args.error ≡ pos n = omega (arith, ints, c.requires.error) in
    let u : ℕ = c.cast_unsigned-raised.result in
    let lo : (negsuc 1048574 *ℤ pos n) ≤ℤ c.args.remainder = grind (arith, ints) in
    let hi : c.args.remainder ≤ℤ (pos 1048575 *ℤ pos n) = grind (arith, ints) in
    let is : pos u ≡ c.args.remainder +ℤ pos 1048576 *ℤ pos n = grind (arith, ints) in
    let d : c.cast_unsigned.result ≡ n = grind (arith, ints) in
    let r = reflection_between n u c.args.remainder some lo hi is in
    rw d (omega (arith, ints, r.1))

pub overflow_sub-result : goal.overflow_sub-result
overflow_sub-result c =
    let n : ℕ = unsigned_abs c.args.error in
    let some : 0 < n = omega (arith, ints, c.requires.error) in
    let n_is : c.args.error ≡ pos n = omega (arith, ints, c.requires.error) in
    let u : ℕ = c.cast_unsigned-raised.result in
    let lo : (negsuc 1048574 *ℤ pos n) ≤ℤ c.args.remainder = grind (arith, ints) in
    let hi : c.args.remainder ≤ℤ (pos 1048575 *ℤ pos n) = grind (arith, ints) in
    let is : pos u ≡ c.args.remainder +ℤ pos 1048576 *ℤ pos n = grind (arith, ints) in
    let d : c.cast_unsigned.result ≡ n = grind (arith, ints) in
    let r = reflection_between n u c.args.remainder some lo hi is in
    rw d (quotient_fits (u / n) r.1)

pub returns-clause-value : goal.returns-clause-value
returns-clause-value c =
    let n : ℕ = unsigned_abs c.args.error in
    let some : 0 < n = omega (arith, ints, c.requires.error) in
    let n_is : c.args.error ≡ pos n = omega (arith, ints, c.requires.error) in
    let u : ℕ = c.cast_unsigned-raised.result in
    let lo : (negsuc 1048574 *ℤ pos n) ≤ℤ c.args.remainder = grind (arith, ints) in
    let hi : c.args.remainder ≤ℤ (pos 1048575 *ℤ pos n) = grind (arith, ints) in
    let is : pos u ≡ c.args.remainder +ℤ pos 1048576 *ℤ pos n = grind (arith, ints) in
    let d : c.cast_unsigned.result ≡ n = grind (arith, ints) in
    let r = reflection_between n u c.args.remainder some lo hi is in
    rw d (quotient_is (u / n) r.1 ∙ sym r.0)

pub returns-clause-small : goal.returns-clause-small
returns-clause-small c =
    let P : ℤ → Type 0 = λ z. IsReflection z in
    subst P (sym (returns-clause-value c)) (limited_is (floor_over (unsigned_abs c.args.error) c.args.remainder))
