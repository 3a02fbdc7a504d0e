use Rattle.std.proofs.Common.{◌≡◌, ℕ, suc, ◌-◌, ◌<◌, length, get_or, None, is_some, false, subst, sym, ◌∙◌, arith}
use Rattle.mlp_matrix.specs.Front.{AreUsed}
use Rattle.mlp_matrix.proofs.Weights.{all_used, fewer_used}
use Rattle.mlp_matrix.proofs.matrix.used.Goals as goal

pub loop-at-init : goal.loop-at-init
loop-at-init c = all_used c.args.coeffs.now

pub loop-at-preserved : goal.loop-at-preserved
loop-at-preserved c =
    let coeffs = c.args.coeffs.now in
    let k : ℕ = c.loop-at.at - 1 in
    let next : c.loop-at.at ≡ suc k = omega (arith, c.loop-at-test.true) in
    let inside : k < length coeffs = omega (arith, c.loop-at-test.true, c.loop-at.auto) in
    let none : is_some (get_or coeffs k None) ≡ false = sym c.is_some.ensures ∙ c.if-is_some.false in
    fewer_used coeffs k inside none (subst (λ (n : ℕ). AreUsed n coeffs) next c.loop-at.invariant)
