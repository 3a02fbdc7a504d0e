use Rattle.std.proofs.Common.{ℤ, pos, List, get_or, arith, subst}
use Rattle.std.specs.Prelude.{All}
use Rattle.std.proofs.lemmas.Int.{ints}
use Rattle.std.proofs.lemmas.List.{take_all}
use Rattle.std.proofs.lemmas.List.Elements.{All-more}
use Rattle.mlp_search.specs.Lines.{IsLight}
use Rattle.mlp_search.proofs.line.are_light.Goals as goal

pub loop-coeff-preserved : goal.loop-coeff-preserved
loop-coeff-preserved c =
    let here : IsLight (get_or c.args.coeffs.now c.loop-coeff.coeff-index (pos 0)) = record { low = omega (arith, ints, c.if-coeff-ltminus15.false); high = omega (arith, ints, c.if-coeff-gt15.false) } in
    All-more IsLight c.args.coeffs.now c.loop-coeff.coeff-index (pos 0) c.loop-coeff-test.true c.loop-coeff.invariant here

pub returns : goal.returns
returns c = λ t. subst (λ (cs : List ℤ). All IsLight cs) (take_all c.loop-coeff.coeff-index c.args.coeffs.now (omega (arith, c.loop-coeff-test.false, c.loop-coeff.auto.coeff-index-end))) c.loop-coeff.invariant
