use Rattle.std.proofs.Common.{◌≡◌, ℤ, true, pos, arith, sym, ap, ◌∙◌}
use Rattle.std.specs.Prelude.{◌||◌, FitsSigned}
use Rattle.std.specs.Int.{w16}
use Rattle.std.specs.Ordering.{int_eq}
use Rattle.std.proofs.lemmas.Int.{ints, to_z-of_z}
use Rattle.mlp_search.specs.Cost.{in_range, is_offset}
use Rattle.mlp_search.proofs.SearchLaws.{cost_counted}
use Rattle.mlp_search.proofs.costs.cost_over.Goals as goal

pub returns : goal.returns
returns c =
    let range : in_range c.args.step true c.args.choice.now ≡ true = sym c.in_range.ensures ∙ c.if-not-in_range.false in
    let own : FitsSigned w16 c.args.choice.now.offset = omega (arith, ints) in
    let mid : FitsSigned w16 c.args.trial.now.middle = omega (arith, ints) in
    let tested = rw (to_z-of_z w16 c.args.choice.now.offset own, to_z-of_z w16 c.args.trial.now.middle mid) at c.is_offset.ensures in
    let offset : is_offset c.args.step c.args.residuals.now c.args.choice.now.offset ≡ true =
    ap (λ (m : ℤ). int_eq c.args.choice.now.offset (pos 0) || int_eq c.args.choice.now.offset m) (sym c.requires.trial.middle) ∙ sym tested ∙ c.if-not-is_offset.false
    in
    cost_counted c.args.state.now c.args.step c.args.trial.now.pair c.args.residuals.now c.args.choice.now c.in_ok-codes.codes c.parameter_sum.result c.requires.trial.writes.pair range offset c.requires.words
    c.in_ok-codes.ensures.value c.parameter_sum.ensures.value
