use Rattle.std.proofs.Common.{Option, sym, subst}
use Rattle.std.specs.Prelude.{IfSome}
use Rattle.mlp_params.specs.declared.state.State.{State}
use Rattle.mlp_layout.specs.Allowed.{Allowed}
use Rattle.mlp_params.specs.Parameters.{params}
use Rattle.mlp_substream.specs.Blocks.{restarted}
use Rattle.mlp_substream.proofs.PlayableLaws.{params_fit}
use Rattle.mlp_substream.proofs.heads.put_head.Goals as goal

pub apply_if-requires-clause-written : goal.apply_if-requires-clause-written
apply_if-requires-clause-written c =
    let h = c.args.head.now in
    let there = restarted c.args.place.now c.args.state.now h.restart in
    subst (λ (f : Option State). IfSome h.params (λ p. IfSome f (λ s. Allowed (params s) p))) (sym c.restart_at.ensures.value) (params_fit there h.params c.requires.head.params)
