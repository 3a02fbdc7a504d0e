use Rattle.std.proofs.Common.{◌≡◌, ◌+◌, ◌-◌, ◌*◌, ℕ, Some, length, w16, arith, sym, ap, ◌∙◌}
use Rattle.std.specs.Prelude.{FitsSigned}
use Rattle.std.proofs.lemmas.Int.{ints, to_z-of_z}
use Rattle.mlp_search.proofs.FoldSums.{all_fit}
use Rattle.mlp_search.proofs.SearchLaws.{cost_counted}
use Rattle.mlp_search.proofs.weighing.cost_with_codes.Goals as goal

pub returns : goal.returns
returns c =
    let fits : FitsSigned w16 c.args.choice.now.offset = omega (arith, ints) in
    let bits = rw (to_z-of_z w16 c.args.choice.now.offset fits) at c.symbols-symbol_bits.ensures.value in
    let low : length c.args.values.now * c.from.result ≡ length c.args.values.now * (c.args.choice.now.low - c.args.step) = ap (λ (k : ℕ). length c.args.values.now * k) c.from.ensures in
    cost_counted c.args.state.now c.args.step c.args.trial.now.pair _ c.args.choice.now (length c.args.values.now * c.from.result + c.symbols-symbol_bits.result) c.parameter_sum.result c.requires.writes.pair
    c.requires.range c.requires.offset c.requires.words
    (ap Some (omega (arith, low, bits))
    ∙ sym (all_fit c.args.choice.now.book (c.args.choice.now.low - c.args.step) c.args.step c.args.choice.now.offset c.args.values.now c.requires.codes))
    c.parameter_sum.ensures.value
