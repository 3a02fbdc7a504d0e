use Rattle.std.proofs.Common.{◌≡◌, ℤ, List, pos, length, arith, ap, ◌∙◌}
use Rattle.std.proofs.lemmas.List.{length-replicate}
use Rattle.mlp_syntax.specs.declared.params.FilterState.{FilterState}
use Rattle.mlp_search.specs.declared.pair.Pair.{Pair}
use Rattle.mlp_search.proofs.States.{zeros, put_is}
use Rattle.mlp_search.proofs.reduction.put_state.Goals as goal

pub set_state-requires : goal.set_state-requires
set_state-requires c =
    let few : length c.zeros.result.values.items ≡ length c.as_slice.result.now =
    ap (λ (s : FilterState). length s.values.items) c.zeros.ensures.value ∙ length-replicate (length c.as_slice.result.now) (pos 0)
    in
    (omega arith, (omega (arith, few, c.as_slice.ensures.fits), c.zeros.ensures.state))

pub returns-then-number-gt0 : goal.returns-then-number-gt0
returns-then-number-gt0 c =
    c.set_state.ensures
    ∙ put_is c.args.number c.args.pair.now c.args.history.now c.zeros.result c.if-number-gt0.true
    (c.zeros.ensures.value ∙ ap (λ (xs : List ℤ). zeros (length xs)) c.as_slice.ensures.value ∙ ap (λ (p : Pair). zeros (length p.iir.coeffs.items)) c.pair.view_is)
