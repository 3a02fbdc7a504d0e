use Rattle.std.proofs.Common.{◌≡◌, ℕ, ℤ, List, pos, replicate, arith, ap, sym, subst, ◌∙◌}
use Rattle.mlp_predict.specs.Filters.{IsState}
use Rattle.mlp_search.proofs.States.{zeros_state}
use Rattle.mlp_search.proofs.reduction.zeros.Goals as goal

pub returns-clause-state : goal.returns-clause-state
returns-clause-state c =
    let done : c.loop.counter ≡ c.args.count = omega arith in
    let items : c.loop.values.items ≡ replicate c.args.count (pos 0) = c.loop.invariant.0 ∙ ap (λ (n : ℕ). replicate n (pos 0)) done in
    subst (λ (vs : List ℤ). IsState (record { bits = 0; shift = 0; values = record { items = vs } })) (sym items) (zeros_state c.args.count)
