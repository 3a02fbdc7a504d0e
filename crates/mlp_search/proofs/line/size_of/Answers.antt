use Rattle.std.proofs.Common.{◌≡◌, ◌≤◌, ℤ, pos, List, get_or, arith, ap}
use Rattle.std.specs.Prelude.{unsigned_abs}
use Rattle.std.proofs.lemmas.List.{drop_all, drop_more}
use Rattle.mlp_search.specs.Folded.{sizes}
use Rattle.mlp_search.proofs.LineLaws.{coefficient_sizes}
use Rattle.mlp_search.proofs.line.size_of.Goals as goal

pub loop-coeff-init : goal.loop-coeff-init
loop-coeff-init c = (omega arith, omega arith)

-- the size of the next coefficient
size_is : (c : goal.After-from-sum) → (c.from-sum.result ≡ unsigned_abs (get_or c.args.coeffs.now c.loop-coeff.coeff-index (pos 0))) × (c.from-sum.result ≤ 32768)
size_is c =
    let here = coefficient_sizes c.args.coeffs.now c.requires.small_coeffs c.loop-coeff.coeff-index (pos 0) c.loop-coeff-test.true in
    (omega (arith, c.from-sum.ensures, c.distance.ensures.value), omega (arith, c.from-sum.ensures, c.distance.ensures.value, here))

pub overflow_add-sum : goal.overflow_add-sum
overflow_add-sum c = omega (arith, c.loop-coeff.invariant.1, (size_is c).1, c.requires.few, c.loop-coeff-test.true)

pub loop-coeff-preserved : goal.loop-coeff-preserved
loop-coeff-preserved c =
    let parts = ap (λ (xs : List ℤ). sizes xs) (drop_more c.args.coeffs.now c.loop-coeff.coeff-index (pos 0) c.loop-coeff-test.true) in
    (omega (arith, c.loop-coeff.invariant.0, (size_is c).0, parts), omega (arith, c.loop-coeff.invariant.1, (size_is c).1))

pub returns-clause-value : goal.returns-clause-value
returns-clause-value c =
    let none = ap (λ (xs : List ℤ). sizes xs) (drop_all c.loop-coeff.coeff-index c.args.coeffs.now (omega (arith, c.loop-coeff-test.false))) in
    omega (arith, c.loop-coeff.invariant.0, none)

pub returns-clause-few : goal.returns-clause-few
returns-clause-few c = omega (arith, c.loop-coeff.invariant.1, c.requires.few, c.loop-coeff.auto.coeff-index-end)
