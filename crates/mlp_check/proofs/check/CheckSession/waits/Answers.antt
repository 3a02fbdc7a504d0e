use Rattle.std.proofs.Common.{◌≡◌, ◌↔◌, Bool, false, IsTrue, sym, subst}
use Rattle.mlp_stream.specs.Moves.{Waits}
use Rattle.mlp_present.specs.Decoding.{waits}
use Rattle.mlp_check.specs.Check.{check_step}
use Rattle.mlp_check.proofs.CheckSteps.{check_waits}
use Rattle.mlp_check.proofs.check.CheckSession.waits.Goals as goal

pub returns : goal.returns
returns c =
    let same : c.waits.result ≡ waits c.args.self.now.held c.args.next.now = cc in
    subst (λ (b : Bool). IsTrue b ↔ (check_step c.args.self.now false c.args.next.now ≡ Waits)) (sym same) (check_waits c.args.self.now c.args.next.now)
