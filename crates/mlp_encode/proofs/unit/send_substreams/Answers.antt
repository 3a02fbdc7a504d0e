use Rattle.std.proofs.Common.{◌≡◌, ℕ, ◌+◌, ◌/◌, ◌<◌, ◌∙◌, ◌++◌, ◌∷◌, [], Bool, true, List, length, get_or, set, Option, None, sym, ap, subst, arith}
use Rattle.std.specs.Prelude.{is_some}
use Rattle.std.specs.Option.{IsSomeAnd}
use Rattle.std.proofs.lemmas.List.{get_or_default}
use Rattle.mlp_syntax.specs.declared.restart.Restart.{Restart}
use Rattle.mlp_params.specs.declared.state.State.{State}
use Rattle.mlp_substream.specs.Segment.{segment, unknown}
use Rattle.mlp_substream.specs.declared.known.Place.{Place}
use Rattle.mlp_substream.proofs.CheckLaws.{AreBytes}
use Rattle.mlp_bits.specs.Bits.{bits_of}
use Rattle.mlp_fold.specs.Substreams.{substreams_of}
use Rattle.mlp_encode.specs.Blocks.{segment_sent}
use Rattle.mlp_encode.specs.Lawful.{SendsSegment, IsSentSegment}
use Rattle.mlp_encode.specs.Unit.{restart_in, entry_at}
use Rattle.mlp_encode.proofs.Renewed.{substreams_most}
use Rattle.mlp_encode.proofs.SyncAllowed.{passes}
use Rattle.mlp_encode.proofs.UnitLengths.{segments_room}
use Rattle.mlp_encode.proofs.SentStarts.{sends_there, restart_is_sync}
use Rattle.mlp_encode.proofs.SentUnits.{Sending, one_more}
use Rattle.mlp_encode.proofs.unit.send_substreams.Goals as goal

pub send_substream-requires-clause-sends : goal.send_substream-requires-clause-sends
send_substream-requires-clause-sends c =
    let p = c.args.profile.now in
    let j = c.loop-j.j in
    let now = c.loop-j.sending in
    let h = c.loop-j.invariant.sent in
    let lt : j < substreams_of p.channels = omega (arith, c.loop-j-test.true, c.substreams-j-end.ensures) in
    let here : get_or now c.from-at.result c.index-sending-at.result ≡ get_or c.args.sending.now j None =
    ap (λ (i : ℕ). get_or now i c.index-sending-at.result) c.from-at.ensures ∙ get_or_default now j c.index-sending-at.result None (omega (arith, h.three, lt, substreams_most p.channels)) ∙ h.later j (omega arith) in
    subst (λ (o : Option Restart). SendsSegment p j o (get_or now c.from-at.result c.index-sending-at.result) c.args.frames.now) (sym c.restart_in-restart.ensures)
    (subst (λ (f : Option State). SendsSegment p j (restart_in p c.args.unit c.args.checks.now j) f c.args.frames.now) (sym here)
    (sends_there p c.args.unit c.args.checks.now c.args.frames.now c.args.sending.now (passes p c.requires.profile) c.requires.frames c.requires.force c.told-sending j lt))

pub send_substream-requires-clause-room : goal.send_substream-requires-clause-room
send_substream-requires-clause-room c =
    let p = c.args.profile.now in
    let lt : c.loop-j.j < substreams_of p.channels = omega (arith, c.loop-j-test.true, c.substreams-j-end.ensures) in
    omega (arith, c.loop-j.invariant.sent.most, segments_room p (passes p c.requires.profile) c.loop-j.j lt)

pub loop-j-preserved : goal.loop-j-preserved
loop-j-preserved c =
    let p = c.args.profile.now in
    let n = c.args.unit in
    let j = c.loop-j.j in
    let now = c.loop-j.sending in
    let h = c.loop-j.invariant.sent in
    let lt : j < substreams_of p.channels = omega (arith, c.loop-j-test.true, c.substreams-j-end.ensures) in
    let restart : Option Restart = restart_in p n c.args.checks.now j in
    let there : get_or now c.from-at.result c.index-sending-at.result ≡ get_or now j None =
    ap (λ (i : ℕ). get_or now i c.index-sending-at.result) c.from-at.ensures ∙ get_or_default now j c.index-sending-at.result None (omega (arith, h.three, lt, substreams_most p.channels)) in
    let sends = sends_there p n c.args.checks.now c.args.frames.now c.args.sending.now (passes p c.requires.profile) c.requires.frames c.requires.force c.told-sending j lt in
    let made = c.send_substream.new.out.segment in
    let after = c.send_substream.new.sending in
    let ps = c.send_substream.new.pasts in
    let bytes = c.send_substream.new.out.bytes.items in
    let small : AreBytes bytes = subst (λ (xs : List ℕ). AreBytes xs) c.deref.ensures.0 c.count_of-count.ensures.small in
    let sent = subst (λ (o : Option Restart). IsSomeAnd (segment_sent j p o (get_or now j None) c.loop-j.pasts c.args.frames.now c.args.terminator) (λ s. IsSentSegment s made after ps)) c.restart_in-restart.ensures
    (subst (λ (f : Option State). IsSomeAnd (segment_sent j p c.restart_in-restart.result f c.loop-j.pasts c.args.frames.now c.args.terminator) (λ s. IsSentSegment s made after ps)) there c.send_substream.ensures.sent) in
    let bits = c.send_substream.ensures.bits
    ∙ ap (λ (f : Option State). bits_of c.loop-j.out.bytes.items ++ (segment c.args.place.now unknown f true).spelling made) there
    ∙ ap (λ (x : Place). bits_of c.loop-j.out.bytes.items ++ (segment x unknown (get_or now j None) true).spelling made) c.requires.place in
    let entry = c.send_substream.ensures.entries
    ∙ ap (λ (o : Option Restart). c.loop-j.out.entries.items ++ entry_at (is_some o) (length bytes / 2) ∷ []) c.restart_in-restart.ensures
    ∙ ap (λ (b : Bool). c.loop-j.out.entries.items ++ entry_at b (length bytes / 2) ∷ []) (restart_is_sync p n c.args.checks.now j) in
    let more = one_more p n c.args.checks.now c.args.frames.now c.args.terminator c.args.sending.now c.args.pasts.now j now c.loop-j.pasts c.loop-j.out.entries.items c.loop-j.out.bytes.items h lt c.told-sending
    made after ps c.send_substream.new.out.entries.items bytes (record {
      sent = sent;
      sends = subst (λ (f : Option State). SendsSegment p j restart f c.args.frames.now) (sym (h.later j (omega arith))) sends;
      end = c.requires.end;
      small_then = small;
      bits = bits;
      entry = entry;
      more_most = c.send_substream.ensures.room;
    }) in
    record {
      sent = subst (λ (i : ℕ). Sending p n c.args.checks.now c.args.frames.now c.args.terminator c.args.sending.now c.args.pasts.now (j + 1) (set now i after) ps c.send_substream.new.out.entries.items bytes) (sym c.from-at.ensures) more;
      same = ap (λ (x : Option State). set c.loop-j.writing c.from-at.result x) c.send_substream.ensures.same ∙ ap (λ (xs : List (Option State)). set xs c.from-at.result after) c.loop-j.invariant.same;
    }
