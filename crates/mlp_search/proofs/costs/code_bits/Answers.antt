use Rattle.std.proofs.Common.{ℕ, arith, ap, ◌∙◌}
use Rattle.std.specs.Prelude.{FitsSigned}
use Rattle.std.specs.Int.{w16}
use Rattle.std.proofs.lemmas.Int.{ints, to_z-of_z}
use Rattle.mlp_search.specs.Cost.{bits_for}
use Rattle.mlp_search.proofs.CodeBits.{counted_is, most_counted}
use Rattle.mlp_search.proofs.costs.code_bits.Goals as goal

pub returns-clause-value : goal.returns-clause-value
returns-clause-value c =
    let fits : FitsSigned w16 c.args.choice.now.offset = omega (arith, ints) in
    let same = to_z-of_z w16 c.args.choice.now.offset fits in
    let some = rw same at c.bits_of.ensures.some in
    let none = rw same at c.bits_of.ensures.none in
    counted_is c.args.choice.now.book c.saturating_sub.result c.args.step c.args.choice.now.offset c.args.residuals.now c.bits_of.result some none
    ∙ ap (λ (b : ℕ). bits_for c.args.choice.now.book b c.args.choice.now.offset c.args.step c.args.residuals.now) c.saturating_sub.ensures

pub returns-clause-few : goal.returns-clause-few
returns-clause-few c =
    most_counted c.args.choice.now.book c.saturating_sub.result c.args.step _ c.args.residuals.now c.bits_of.result
    (omega (arith, c.saturating_sub.ensures, c.requires.low)) c.requires.few c.bits_of.ensures.some
