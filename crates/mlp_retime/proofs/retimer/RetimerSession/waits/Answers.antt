use Rattle.std.proofs.Common.{◌≡◌, false, not, ap, ◌∙◌}
use Rattle.std.specs.Prelude.{is_some}
use Rattle.mlp_present.specs.Decoding.{is_open_behind}
use Rattle.mlp_retime.proofs.Taking.{top_unrefused}
use Rattle.mlp_retime.proofs.RetimeSteps.{waits_by, open_then, open_else, none_there}
use Rattle.mlp_retime.proofs.retimer.RetimerSession.waits.Goals as goal

pub returns-then-is_none : goal.returns-then-is_none
returns-then-is_none c =
    let none : is_some c.self.inside.refusal ≡ false = c.is_none.ensures ∙ ap not c.if-is_none.true in
    let unrefused = top_unrefused c.self.inside.decoder (c.self.invariant.is_top (none_there c.self.inside.refusal none)) in
    waits_by c.self.inside.decoder c.self.inside.fifo c.self.inside.refusal c.args.next.now c.waits.result
    (c.waits.ensures ∙ open_then c.self.inside.refusal c.self.inside.decoder.refusal (is_open_behind c.self.inside.decoder.left c.args.next.now) none unrefused) c.args.self.now c.self.view_is

pub returns-else-is_none : goal.returns-else-is_none
returns-else-is_none c =
    waits_by c.self.inside.decoder c.self.inside.fifo c.self.inside.refusal c.args.next.now c.is_none.result
    (c.if-is_none.false ∙ open_else c.self.inside.refusal (is_open_behind c.self.inside.decoder.left c.args.next.now) (c.is_none.ensures ∙ ap not c.if-is_none.false)) c.args.self.now c.self.view_is
