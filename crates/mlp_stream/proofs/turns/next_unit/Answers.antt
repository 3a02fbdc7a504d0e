use Rattle.std.proofs.Common.{refl, sym, ap, ◌∙◌, true}
use Rattle.mlp_stream.specs.Moves.{Takes, Refuses}
use Rattle.mlp_stream.proofs.Along.{step_now}
use Rattle.mlp_stream.proofs.turns.next_unit.Goals as goal

pub returns-in-Ok-clause-ok : goal.returns-in-Ok-clause-ok
returns-in-Ok-clause-ok g c =
    let w = c.args.window.now in
    step_now g.N.Session.step g.N.Session.last g.N.Session.count g.met.N.Session.lawful 0 w.rest c.args.session.now w.bytes (Takes c.in-Ok.used c.unit.new.out.items c.unit.new.self) c.requires.enough (c.if-is_cut.ensures.whole refl)
    (ap (g.N.Session.step c.args.session.now true) (sym c.bytes.ensures) ∙ c.in-Ok.ensures)

pub returns-in-Err-clause-err : goal.returns-in-Err-clause-err
returns-in-Err-clause-err g c =
    let w = c.args.window.now in
    step_now g.N.Session.step g.N.Session.last g.N.Session.count g.met.N.Session.lawful 0 w.rest c.args.session.now w.bytes (Refuses c.in-Err.refusal) c.requires.enough (c.if-is_cut.ensures.whole refl)
    (ap (g.N.Session.step c.args.session.now true) (sym c.bytes.ensures) ∙ c.in-Err.ensures)
