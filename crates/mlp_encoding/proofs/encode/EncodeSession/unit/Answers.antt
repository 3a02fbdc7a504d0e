use Rattle.std.proofs.Common.{ℕ, ◌+◌, List, arith, sym, ◌∙◌, ap}
use Rattle.mlp_stream.specs.Moves.{Takes}
use Rattle.mlp_encoding.proofs.EncodeSteps.{parts, kept_by, passed_by, refused_by, taken_by, no_room_by, next_by, pcm_bytes, pcm_some, zero_to_come, more_to_come}
use Rattle.mlp_encoding.proofs.encode.EncodeSession.unit.Goals as goal

pub returns-in-Some : goal.returns-in-Some
returns-in-Some c =
    kept_by c.self.inside.encoder c.self.inside.to_come c.self.inside.moves c.self.inside.profile c.self.inside.units c.self.inside.refusal c.in-Some.refusal c.args.next.now c.self.invariant
    c.in-Some.is c.requires.some c.args.self.now c.self.view_is

pub returns-then-eq : goal.returns-then-eq
returns-then-eq c =
    passed_by c.self.inside.encoder c.self.inside.to_come c.self.inside.moves c.self.inside.profile c.self.inside.units c.self.inside.refusal c.min.result c.args.next.now c.self.invariant
    c.in_default.is (zero_to_come _ _ c.eq.ensures c.if-eq.true) c.requires.some c.min.ensures c.args.self.now c.self.view_is
    ∙ ap (λ (out : List ℕ). Takes c.min.result out (parts c.self.inside.encoder c.self.inside.to_come (c.self.inside.moves + 1))) (sym c.clear.ensures)

pub returns-in-Err : goal.returns-in-Err
returns-in-Err c =
    refused_by c.self.inside.encoder c.self.inside.to_come c.self.inside.moves c.self.inside.profile c.self.inside.units c.self.inside.refusal c.self.invariant c.in_default.is
    c.args.next.now c.pcm_in-pcm.result.now c.requires.some c.full_size-full.result c.min-2.result (more_to_come _ _ c.eq.ensures c.if-eq.false) c.pcm_in-pcm.ensures c.full_size-full.ensures.value c.min-2.ensures
    c.in-Err.fault c.in-Err.ensures.err c.args.self.now c.self.view_is

pub unit-requires-clause-frames : goal.unit-requires-clause-frames
unit-requires-clause-frames c =
    next_by c.self.inside.encoder c.self.inside.to_come c.self.inside.moves c.self.inside.profile c.self.inside.units c.self.inside.refusal c.self.invariant c.in_default.is
    c.args.next.now c.pcm_in-pcm.result.now c.requires.some c.full_size-full.result c.min-2.result (more_to_come _ _ c.eq.ensures c.if-eq.false) c.pcm_in-pcm.ensures c.full_size-full.ensures.value c.min-2.ensures
    (pcm_bytes c.self.inside.to_come c.args.next.now c.pcm_in-pcm.result.now (λ i. omega (arith, c.type_inv.next i)) c.pcm_in-pcm.ensures)
    (pcm_some c.self.inside.to_come c.args.next.now c.pcm_in-pcm.result.now (more_to_come _ _ c.eq.ensures c.if-eq.false) c.requires.some c.pcm_in-pcm.ensures) c.read_unit.new.frames.rows.items c.in-Ok.ensures.ok c.in-Ok.ensures.frames

pub returns-in-Ok-unit : goal.returns-in-Ok-unit
returns-in-Ok-unit c =
    taken_by c.self.inside.encoder c.self.inside.to_come c.self.inside.moves c.self.inside.profile c.self.inside.units c.self.inside.refusal c.self.invariant c.in_default.is
    c.args.next.now c.pcm_in-pcm.result.now c.requires.some c.full_size-full.result c.min-2.result (more_to_come _ _ c.eq.ensures c.if-eq.false) c.pcm_in-pcm.ensures c.full_size-full.ensures.value c.min-2.ensures
    c.read_unit.new.frames.rows.items _ c.unit.new.out.items c.unit.new.self c.less-self-inside.result c.in-Ok.ensures.ok c.in-Ok.ensures.frames c.in-Ok-unit.ensures.sent c.less-self-inside.ensures c.args.self.now c.self.view_is

pub returns-in-Err-unit : goal.returns-in-Err-unit
returns-in-Err-unit c =
    no_room_by c.self.inside.encoder c.self.inside.to_come c.self.inside.moves c.self.inside.profile c.self.inside.units c.self.inside.refusal c.self.invariant c.in_default.is
    c.args.next.now c.pcm_in-pcm.result.now c.requires.some c.full_size-full.result c.min-2.result (more_to_come _ _ c.eq.ensures c.if-eq.false) c.pcm_in-pcm.ensures c.full_size-full.ensures.value c.min-2.ensures
    c.read_unit.new.frames.rows.items c.in-Err-unit.no_room c.unit.new.out.items c.unit.new.self c.in-Ok.ensures.ok c.in-Ok.ensures.frames c.in-Err-unit.ensures.sent c.args.self.now c.self.view_is
