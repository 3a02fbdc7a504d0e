use Rattle.std.proofs.Common.{◌≡◌, ◌++◌, List, Bool, length, refl, ap, ◌∙◌, arith}
use Rattle.std.proofs.lemmas.List.{length-append}
use Rattle.mlp_bits.specs.Bits.{bits_of}
use Rattle.mlp_bits.proofs.BitLists.{length-bits_of}
use Rattle.mlp_substream.specs.Segment.{segment_tail, segment, unknown}
use Rattle.mlp_substream.proofs.CheckLaws.{AreBytes}
use Rattle.mlp_substream.proofs.SegmentLaws.{segment_long}
use Rattle.mlp_substream.proofs.WritingEnds.{tail_words, has_tail, meets_tail, segment_longer, segment_behind, segment_size, on_ok}
use Rattle.mlp_substream.proofs.writing.write_segment_with.Goals as goal
use Rattle.mlp_substream.specs.Blocks.{context_of}

pub write_fields-requires-clause-fits : goal.write_fields-requires-clause-fits
write_fields-requires-clause-fits c = has_tail c.args.place.now unknown c.args.state.now c.args.segment.now c.args.segment.now.checked c.requires.fits

pub write_fields-requires-clause-meets : goal.write_fields-requires-clause-meets
write_fields-requires-clause-meets c = meets_tail c.args.place.now unknown c.args.state.now c.args.segment.now c.args.segment.now.checked c.requires.meets

pub returns-in_default-clause-too_long : goal.returns-in_default-clause-too_long
returns-in_default-clause-too_long c =
    let p = c.args.place.now in
    let s = c.args.segment.now in
    let out = c.args.out.now.items in
    let full = c.in_default.ensures.text.err.full in
    let longer = segment_longer p unknown c.args.state.now s s.checked in
    (λ e. omega (arith, full, longer, ap (λ (t : List Bool). length t) c.clear.ensures, length-append (bits_of out) ((segment p unknown c.args.state.now s.checked).spelling s)), λ lt. refl)

pub bytes-bytes-requires : goal.bytes-bytes-requires
bytes-bytes-requires c =
    let p = c.args.place.now in
    let s = c.args.segment.now in
    let text = (segment_tail p unknown (context_of c.args.state.now 0 p.major) s.checked).spelling 0 s in
    let written : c.write_fields.new.w ≡ text = c.in-Ok.ensures.text.ok.appended ∙ ap (λ (t : List Bool). t ++ text) c.clear.ensures in
    let words = tail_words p unknown (context_of c.args.state.now 0 p.major) s.checked s (has_tail p unknown c.args.state.now s s.checked c.requires.fits) in
    omega (arith, words, ap (λ (t : List Bool). length t) written)

pub push_segment-requires-clause-some : goal.push_segment-requires-clause-some
push_segment-requires-clause-some c =
    let p = c.args.place.now in
    let s = c.args.segment.now in
    let at = context_of c.args.state.now 0 p.major in
    let text = (segment_tail p unknown at s.checked).spelling 0 s in
    let written : c.write_fields.new.w ≡ text = c.in-Ok.ensures.text.ok.appended ∙ ap (λ (t : List Bool). t ++ text) c.clear.ensures in
    let long = segment_long p unknown at s.checked s (has_tail p unknown c.args.state.now s s.checked c.requires.fits) in
    omega (arith, long, length-bits_of c.bytes-bytes.result.now, ap (λ (t : List Bool). length t) (c.bytes-bytes.ensures ∙ written))

pub push_segment-requires-clause-few : goal.push_segment-requires-clause-few
push_segment-requires-clause-few c =
    let p = c.args.place.now in
    let s = c.args.segment.now in
    let at = context_of c.args.state.now 0 p.major in
    let text = (segment_tail p unknown at s.checked).spelling 0 s in
    let written : c.write_fields.new.w ≡ text = c.in-Ok.ensures.text.ok.appended ∙ ap (λ (t : List Bool). t ++ text) c.clear.ensures in
    omega (arith, c.in-Ok.ensures.text.ok.fitted, length-bits_of c.bytes-bytes.result.now, ap (λ (t : List Bool). length t) (c.bytes-bytes.ensures ∙ written))

pub returns-clause-too_long : goal.returns-clause-too_long
returns-clause-too_long c =
    let p = c.args.place.now in
    let s = c.args.segment.now in
    let out = c.args.out.now.items in
    let text = (segment_tail p unknown (context_of c.args.state.now 0 p.major) s.checked).spelling 0 s in
    let written : c.write_fields.new.w ≡ text = c.in-Ok.ensures.text.ok.appended ∙ ap (λ (t : List Bool). t ++ text) c.clear.ensures in
    let small : AreBytes c.bytes-bytes.result.now = λ i. grind arith in
    let size = segment_size p unknown c.args.state.now s s.checked c.bytes-bytes.result.now small (c.bytes-bytes.ensures ∙ written) out in
    let long = c.push_segment.ensures.too_long in
    (λ e. let lt = long.0 e in omega (arith, size, lt), λ lt. long.1 (omega (arith, size, lt)))

pub returns-clause-appended : goal.returns-clause-appended
returns-clause-appended c =
    let p = c.args.place.now in
    let s = c.args.segment.now in
    let out = c.args.out.now.items in
    let text = (segment_tail p unknown (context_of c.args.state.now 0 p.major) s.checked).spelling 0 s in
    let written : c.write_fields.new.w ≡ text = c.in-Ok.ensures.text.ok.appended ∙ ap (λ (t : List Bool). t ++ text) c.clear.ensures in
    let small : AreBytes c.bytes-bytes.result.now = λ i. grind arith in
    let behind = segment_behind p unknown c.args.state.now s s.checked c.bytes-bytes.result.now small (c.bytes-bytes.ensures ∙ written) out in
    on_ok c.push_segment.result _ _ (λ e. ap bits_of e ∙ behind) c.push_segment.ensures.appended
