use Rattle.std.proofs.Common.{◌≡◌, ℤ, pos, ◌+◌, drop, get_or, to_z, of_z, w16, arith, sym, subst}
use Rattle.std.proofs.lemmas.Int.{to_z-of_z}
use Rattle.std.proofs.lemmas.List.{drop_more, drop_all}
use Rattle.mlp_residual.specs.Coding.{TakeBits}
use Rattle.mlp_residual.proofs.Counting.{counted_one, counted_never, counted_all}
use Rattle.mlp_residual.proofs.count.bits_of.Goals as goal

pub returns-clause-some : goal.returns-clause-some
returns-clause-some c =
    let o : ℤ = c.args.offset in
    let e : to_z w16 (of_z w16 o) ≡ o = to_z-of_z w16 o c.ranges.offset in
    subst (λ (z : ℤ). TakeBits c.args.book c.args.b z c.args.step c.args.residuals.now c.loop-residual.bits) e
    (counted_all _ _ _ _ _ _ _ (drop_all c.loop-residual.residual-index c.args.residuals.now c.loop-residual-test.false) c.loop-residual.invariant.counted)

pub loop-residual-preserved : goal.loop-residual-preserved
loop-residual-preserved c =
    let h = c.in_ok-bits.ensures.some in
    let r = get_or c.args.residuals.now c.loop-residual.residual-index (pos 0) in
    record {
      counted = counted_one c.args.book c.args.b (to_z w16 (of_z w16 c.args.offset)) c.args.step c.args.residuals.now (drop c.loop-residual.residual-index c.args.residuals.now)
          (drop (c.loop-residual.residual-index + 1) c.args.residuals.now) r c.loop-residual.bits c.in_ok-bits.field-0 (drop_more c.args.residuals.now c.loop-residual.residual-index (pos 0) c.loop-residual-test.true)
          (record { code = h.0; spells = h.1; bits = h.2 }) c.loop-residual.invariant.counted;
      small = omega (arith, c.in_ok-bits.ensures.most, c.loop-residual.invariant.small);
    }

pub returns-in_err-bits-clause-none : goal.returns-in_err-bits-clause-none
returns-in_err-bits-clause-none c =
    let h = c.in_err-bits.ensures.none in
    let o : ℤ = c.args.offset in
    let e : to_z w16 (of_z w16 o) ≡ o = to_z-of_z w16 o c.ranges.offset in
    let r = get_or c.args.residuals.now c.loop-residual.residual-index (pos 0) in
    rw c.from_residual.ensures (λ n t. counted_never c.args.book c.args.b (to_z w16 (of_z w16 c.args.offset)) c.args.step c.args.residuals.now (drop c.loop-residual.residual-index c.args.residuals.now)
    (drop (c.loop-residual.residual-index + 1) c.args.residuals.now) r c.loop-residual.bits (drop_more c.args.residuals.now c.loop-residual.residual-index (pos 0) c.loop-residual-test.true) h
    c.loop-residual.invariant.counted n (subst (λ (z : ℤ). TakeBits c.args.book c.args.b z c.args.step c.args.residuals.now n) (sym e) t))
