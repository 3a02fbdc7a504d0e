use Rattle.std.proofs.Common.{ℤ, List, map, w32, arith, sym, subst}
use Rattle.std.specs.Prelude.{All, FitsSigned}
use Rattle.mlp_search.specs.Folded.{stepped}
use Rattle.mlp_search.proofs.LineFits.{light_fit, split_fit}
use Rattle.mlp_search.proofs.line.reduce_by.Goals as goal

pub returns-then-are_light-clause-fits : goal.returns-then-are_light-clause-fits
returns-then-are_light-clause-fits c =
    λ t q few small.
    subst (λ (vs : List ℤ). All (FitsSigned w32) (map (stepped q) vs)) (sym c.put_any_light.ensures)
    (light_fit c.args.coeffs.now c.args.shift q c.args.line.now.whole.now (omega (arith, c.if-coeffs-le4.true)) (c.are_light.ensures c.if-are_light.true) small)

pub returns-clause-fits : goal.returns-clause-fits
returns-clause-fits c =
    λ t q few small.
    subst (λ (vs : List ℤ). All (FitsSigned w32) (map (stepped q) vs)) (sym c.put_any.ensures)
    (split_fit c.args.coeffs.now c.args.shift q c.args.line.now.whole.now c.requires.few (omega (arith, c.if-shift-lt13.false)) few c.requires.small_coeffs small)
