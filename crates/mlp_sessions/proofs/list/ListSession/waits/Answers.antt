use Rattle.std.proofs.Common.{◌≡◌, ◌↔◌, Bool, false, IsTrue, sym, subst}
use Rattle.mlp_stream.specs.Moves.{Waits}
use Rattle.mlp_outline.specs.Outlining.{waits}
use Rattle.mlp_sessions.specs.Listing.{list_step}
use Rattle.mlp_sessions.proofs.ListSteps.{list_waits}
use Rattle.mlp_sessions.proofs.list.ListSession.waits.Goals as goal

pub returns : goal.returns
returns c =
    let same : c.waits.result ≡ waits c.args.self.now c.args.next.now = cc in
    subst (λ (b : Bool). IsTrue b ↔ (list_step c.args.self.now false c.args.next.now ≡ Waits)) (sym same) (list_waits c.args.self.now c.args.next.now)
