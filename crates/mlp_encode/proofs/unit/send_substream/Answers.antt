use Rattle.std.proofs.Common.{◌∙◌, ◌++◌, Bool, Option, ap, sym, subst}
use Rattle.std.specs.Prelude.{is_some}
use Rattle.mlp_params.specs.declared.state.State.{State}
use Rattle.mlp_substream.specs.declared.known.Place.{Place}
use Rattle.mlp_substream.specs.Blocks.{IsPlace}
use Rattle.mlp_bits.specs.Bits.{bits_of}
use Rattle.mlp_substream.specs.Segment.{segment, unknown}
use Rattle.mlp_encode.specs.Lawful.{segment_most}
use Rattle.mlp_encode.proofs.SentThere.{IsThere, place_there, sent_there}
use Rattle.mlp_encode.proofs.SentLength.{short_there, ok_is, written_most, not_long}
use Rattle.mlp_encode.proofs.unit.send_substream.Goals as goal

pub write_segment_with-too_long-requires-clause-place : goal.write_segment_with-too_long-requires-clause-place
write_segment_with-too_long-requires-clause-place c = subst (λ (x : Place). IsPlace x) (sym c.requires.place) (place_there c.args.profile.now (is_some c.args.restart))

pub write_segment_with-too_long-requires-clause-fits : goal.write_segment_with-too_long-requires-clause-fits
write_segment_with-too_long-requires-clause-fits c =
    let made = sent_there c.args.substream c.args.profile.now c.args.pasts.now c.args.frames.now c.args.terminator c.requires.end c.send_segment.new.segment c.send_segment.new.state c.send_segment.new.pasts
    c.args.restart c.args.sending.now c.requires.sends c.send_segment.ensures in
    let there = subst (λ (o : Option State). IsThere c.args.place.now o c.send_segment.new.segment c.send_segment.new.state) (sym c.requires.same)
    (subst (λ (x : Place). IsThere x c.args.sending.now c.send_segment.new.segment c.send_segment.new.state) (sym c.requires.place) made) in
    there.allowed.fits

pub write_segment_with-too_long-requires-clause-meets : goal.write_segment_with-too_long-requires-clause-meets
write_segment_with-too_long-requires-clause-meets c =
    let made = sent_there c.args.substream c.args.profile.now c.args.pasts.now c.args.frames.now c.args.terminator c.requires.end c.send_segment.new.segment c.send_segment.new.state c.send_segment.new.pasts
    c.args.restart c.args.sending.now c.requires.sends c.send_segment.ensures in
    let there = subst (λ (o : Option State). IsThere c.args.place.now o c.send_segment.new.segment c.send_segment.new.state) (sym c.requires.same)
    (subst (λ (x : Place). IsThere x c.args.sending.now c.send_segment.new.segment c.send_segment.new.state) (sym c.requires.place) made) in
    there.allowed.meets

pub returns-clause-same : goal.returns-clause-same
returns-clause-same c =
    let made = sent_there c.args.substream c.args.profile.now c.args.pasts.now c.args.frames.now c.args.terminator c.requires.end c.send_segment.new.segment c.send_segment.new.state c.send_segment.new.pasts
    c.args.restart c.args.sending.now c.requires.sends c.send_segment.ensures in
    let there = subst (λ (o : Option State). IsThere c.args.place.now o c.send_segment.new.segment c.send_segment.new.state) (sym c.requires.same)
    (subst (λ (x : Place). IsThere x c.args.sending.now c.send_segment.new.segment c.send_segment.new.state) (sym c.requires.place) made) in
    let short = short_there c.args.substream c.args.profile.now c.args.pasts.now c.args.frames.now c.args.terminator c.requires.end c.send_segment.new.segment c.send_segment.new.state c.send_segment.new.pasts
    c.args.restart c.args.sending.now c.requires.sends c.send_segment.ensures c.args.place.now c.args.writing.now c.requires.place c.requires.same in
    let text = (segment c.args.place.now unknown c.args.writing.now c.send_segment.new.segment.checked).spelling c.send_segment.new.segment in
    ok_is c.write_segment_with-too_long.result _ (λ e. not_long c.args.out.now.bytes.items text (segment_most c.args.profile.now c.args.substream) short c.requires.room (c.write_segment_with-too_long.ensures.too_long.0 e))
    c.write_segment_with-too_long.ensures.force ∙ there.leaves

pub returns-clause-bits : goal.returns-clause-bits
returns-clause-bits c =
    let made = sent_there c.args.substream c.args.profile.now c.args.pasts.now c.args.frames.now c.args.terminator c.requires.end c.send_segment.new.segment c.send_segment.new.state c.send_segment.new.pasts
    c.args.restart c.args.sending.now c.requires.sends c.send_segment.ensures in
    let short = short_there c.args.substream c.args.profile.now c.args.pasts.now c.args.frames.now c.args.terminator c.requires.end c.send_segment.new.segment c.send_segment.new.state c.send_segment.new.pasts
    c.args.restart c.args.sending.now c.requires.sends c.send_segment.ensures c.args.place.now c.args.writing.now c.requires.place c.requires.same in
    let text = (segment c.args.place.now unknown c.args.writing.now c.send_segment.new.segment.checked).spelling c.send_segment.new.segment in
    let appended = ok_is c.write_segment_with-too_long.result _ (λ e. not_long c.args.out.now.bytes.items text (segment_most c.args.profile.now c.args.substream) short c.requires.room (c.write_segment_with-too_long.ensures.too_long.0 e))
    c.write_segment_with-too_long.ensures.appended in
    appended
    ∙ ap (λ (o : Option State). bits_of c.args.out.now.bytes.items ++ (segment c.args.place.now unknown o c.send_segment.new.segment.checked).spelling c.send_segment.new.segment) c.requires.same
    ∙ ap (λ (b : Bool). bits_of c.args.out.now.bytes.items ++ (segment c.args.place.now unknown c.args.sending.now b).spelling c.send_segment.new.segment) made.checked

pub returns-clause-room : goal.returns-clause-room
returns-clause-room c =
    let short = short_there c.args.substream c.args.profile.now c.args.pasts.now c.args.frames.now c.args.terminator c.requires.end c.send_segment.new.segment c.send_segment.new.state c.send_segment.new.pasts
    c.args.restart c.args.sending.now c.requires.sends c.send_segment.ensures c.args.place.now c.args.writing.now c.requires.place c.requires.same in
    let text = (segment c.args.place.now unknown c.args.writing.now c.send_segment.new.segment.checked).spelling c.send_segment.new.segment in
    let appended = ok_is c.write_segment_with-too_long.result _ (λ e. not_long c.args.out.now.bytes.items text (segment_most c.args.profile.now c.args.substream) short c.requires.room (c.write_segment_with-too_long.ensures.too_long.0 e))
    c.write_segment_with-too_long.ensures.appended in
    written_most c.write_segment_with-too_long.new.out.items c.args.out.now.bytes.items text (segment_most c.args.profile.now c.args.substream) appended short
