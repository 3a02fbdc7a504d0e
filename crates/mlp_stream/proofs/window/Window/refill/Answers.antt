use Rattle.std.proofs.Common.{arith}
use Rattle.mlp_stream.proofs.WindowLaws.{refilled}
use Rattle.mlp_stream.proofs.window.Window.refill.Goals as goal

pub returns-in-Ok-clause-ok : goal.returns-in-Ok-clause-ok
returns-in-Ok-clause-ok g c =
    let w = c.self.inside in
    let short = c.requires in
    refilled c.args.self.now w.room c.to_front.new.room c.fill.new.buf w.start w.end w.taken c.min-want.result c.in-Ok.count c.kept-count.result _ w.rest c.rest_after-rest.result _ _
    c.self.view_is short.0 short.1 (omega arith) (omega arith) (omega arith) c.to_front.ensures (omega arith) (omega arith) (omega arith)
    (omega (arith, c.in-Ok.ensures.bound)) c.rest_after-rest.ensures c.kept-count.ensures c.in-Ok.ensures.bytes (λ l. c.in-Ok.ensures.end (omega arith))
