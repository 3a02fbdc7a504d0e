use Rattle.std.proofs.Common.{Err, ap, ◌∙◌, rules}
use Rattle.std.proofs.lemmas.Result.{err_from_is_err_and}
use Rattle.mlp_stream.specs.declared.refusal.Refusal.{Refusal}
use Rattle.mlp_sessions.proofs.Rates.{usable_behind}
use Rattle.mlp_sessions.proofs.PlaySteps.{decode_taken, decode_lacking, decode_declined}
use Rattle.mlp_sessions.proofs.decode.DecodeSession.unit.Goals as goal

pub returns-in_err-self-inside-in-Ok : goal.returns-in_err-self-inside-in-Ok
returns-in_err-self-inside-in-Ok c =
    let p = err_from_is_err_and c.from_residual.result c.from_residual.ensures.1 in
    decode_lacking c.self.inside.decoder c.self.inside.bits c.self.inside.given c.args.next.now _ c.in-Ok.size c.channels-channels.result c.unit.new.out.items c.deref.result.now c.unit.new.self
    c.in_err-self-inside-in-Ok.field-0.0 c.from_residual.result _ c.in-Ok.ensures.unit c.channels-channels.ensures c.deref.ensures.0 c.in_err-self-inside-in-Ok.ensures.err
    (p.1 ∙ ap (λ (r : Refusal). Err r) p.2) c.args.self.now c.self.view_is

pub returns-in_ok-self-inside-in-Ok : goal.returns-in_ok-self-inside-in-Ok
returns-in_ok-self-inside-in-Ok c =
    decode_taken c.self.inside.decoder c.self.inside.bits c.self.inside.given c.args.next.now c.put_frames.new.out.items c.in-Ok.size c.in_ok-self-inside-in-Ok.field-0 c.channels-channels.result
    c.unit.new.out.items c.deref.result.now c.unit.new.self
    c.in-Ok.ensures.unit c.channels-channels.ensures c.deref.ensures.0 c.in_ok-self-inside-in-Ok.ensures.ok.0 c.in_ok-self-inside-in-Ok.ensures.ok.1 c.args.self.now c.self.view_is

pub returns-in-Err : goal.returns-in-Err
returns-in-Err c =
    decode_declined c.self.inside.decoder c.self.inside.bits c.self.inside.given c.args.next.now c.in-Err.refusal c.refusal_of.result c.in-Err.ensures.unit c.refusal_of.ensures c.args.self.now c.self.view_is

pub invariant_of-self : goal.invariant_of-self
invariant_of-self c = (c.self.invariant.0, search rules, usable_behind _ _ _ _ _ c.in-Ok.ensures.unit c.self.invariant.2)

pub invariant_of-self-in-Ok : goal.invariant_of-self-in-Ok
invariant_of-self-in-Ok c = (c.self.invariant.0, search rules, usable_behind _ _ _ _ _ c.in-Ok.ensures.unit c.self.invariant.2)
