use Rattle.std.proofs.Common.{sym, ◌∙◌}
use Rattle.mlp_encoding.proofs.EncodeSteps.{waits_refused, waits_passed, waits_unit, none_there, zero_to_come, more_to_come}
use Rattle.mlp_encoding.proofs.encode.EncodeSession.waits.Goals as goal

pub returns-then-is_some : goal.returns-then-is_some
returns-then-is_some c =
    waits_refused c.self.inside.encoder c.self.inside.to_come c.self.inside.moves c.self.inside.profile c.self.inside.units c.self.inside.refusal c.args.next.now c.self.invariant
    (sym c.is_some.ensures ∙ c.if-is_some.true) c.requires c.args.self.now c.self.view_is

pub returns-then-eq : goal.returns-then-eq
returns-then-eq c =
    waits_passed c.self.inside.encoder c.self.inside.to_come c.self.inside.moves c.self.inside.profile c.self.inside.units c.self.inside.refusal c.args.next.now c.self.invariant
    (none_there _ _ c.is_some.ensures c.if-is_some.false) (zero_to_come _ _ c.eq.ensures c.if-eq.true) c.requires c.args.self.now c.self.view_is

pub returns : goal.returns
returns c =
    waits_unit c.self.inside.encoder c.self.inside.to_come c.self.inside.moves c.self.inside.profile c.self.inside.units c.self.inside.refusal c.args.next.now c.pcm_in.result.now c.is_seen-seen.result c.is_open.result c.self.invariant
    (none_there _ _ c.is_some.ensures c.if-is_some.false) (more_to_come _ _ c.eq.ensures c.if-eq.false) c.requires c.is_seen-seen.ensures c.pcm_in.ensures c.is_open.ensures c.args.self.now c.self.view_is
