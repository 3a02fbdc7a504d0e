use Rattle.std.proofs.Common.{◌≡◌, ◌↔◌, ◌<◌, ◌^◌, ◌++◌, length, None, sym, ap, subst, ◌∙◌, arith}
use Rattle.std.specs.Prelude.{IsErr, OnOk, List, Bool}
use Rattle.mlp_syntax.specs.declared.segment.Segment.{Segment}
use Rattle.mlp_bits.specs.Bits.{bits_of}
use Rattle.mlp_bits.proofs.Words.{bits_of-append}
use Rattle.mlp_substream.specs.Segment.{segment, unknown}
use Rattle.mlp_retime.specs.Retimed.{own_text}
use Rattle.mlp_retime.proofs.Stamps.{stamped_is, restamped_none, appended}
use Rattle.mlp_retime.proofs.stamping.push_stamped.Goals as goal

pub returns-in_default-clause-text : goal.returns-in_default-clause-text
returns-in_default-clause-text c =
    let small : c.args.output < 2 ^ 16 = omega (arith, c.ranges.output.fits) in
    ap bits_of c.push_bytes.ensures ∙ bits_of-append c.args.out.now.items c.args.bytes.now
    ∙ ap (λ (t : List Bool). bits_of c.args.out.now.items ++ t) (sym (restamped_none c.args.place.now c.args.output small c.args.checked (bits_of c.args.bytes.now) c.in_default.field-0 c.in_default.ensures.read))

pub write_segment-fits-requires-clause-fits : goal.write_segment-fits-requires-clause-fits
write_segment-fits-requires-clause-fits c =
    let small : c.args.output < 2 ^ 16 = omega (arith, c.ranges.output.fits) in
    subst (λ (x : Segment). (segment c.args.place.now unknown None x.checked).Fits x) (sym c.stamp.ensures)
    (stamped_is c.args.place.now c.args.output small c.args.checked (bits_of c.args.bytes.now) c.read_segment_into.new.out c.in-Ok.ensures.read).fits

pub write_segment-fits-requires-clause-meets : goal.write_segment-fits-requires-clause-meets
write_segment-fits-requires-clause-meets c =
    let small : c.args.output < 2 ^ 16 = omega (arith, c.ranges.output.fits) in
    subst (λ (x : Segment). (segment c.args.place.now unknown None x.checked).Meets x) (sym c.stamp.ensures)
    (stamped_is c.args.place.now c.args.output small c.args.checked (bits_of c.args.bytes.now) c.read_segment_into.new.out c.in-Ok.ensures.read).meets

pub returns-clause-text : goal.returns-clause-text
returns-clause-text c =
    let small : c.args.output < 2 ^ 16 = omega (arith, c.ranges.output.fits) in
    let w = c.write_segment-fits in
    let long = subst (λ (x : Segment). IsErr w.result ↔ (65520 < length (bits_of c.args.out.now.items ++ own_text c.args.place.now x))) c.stamp.ensures w.ensures.too_long in
    let is = subst (λ (x : Segment). OnOk w.result (bits_of w.new.out.items ≡ bits_of c.args.out.now.items ++ own_text c.args.place.now x)) c.stamp.ensures w.ensures.appended in
    (appended c.args.place.now c.args.output c.args.checked c.args.bytes.now c.args.out.now.items c.read_segment_into.new.out small c.requires.room c.in-Ok.ensures.read w.result w.new.out.items long is).0

pub returns-clause-size : goal.returns-clause-size
returns-clause-size c =
    let small : c.args.output < 2 ^ 16 = omega (arith, c.ranges.output.fits) in
    let w = c.write_segment-fits in
    let long = subst (λ (x : Segment). IsErr w.result ↔ (65520 < length (bits_of c.args.out.now.items ++ own_text c.args.place.now x))) c.stamp.ensures w.ensures.too_long in
    let is = subst (λ (x : Segment). OnOk w.result (bits_of w.new.out.items ≡ bits_of c.args.out.now.items ++ own_text c.args.place.now x)) c.stamp.ensures w.ensures.appended in
    (appended c.args.place.now c.args.output c.args.checked c.args.bytes.now c.args.out.now.items c.read_segment_into.new.out small c.requires.room c.in-Ok.ensures.read w.result w.new.out.items long is).1
