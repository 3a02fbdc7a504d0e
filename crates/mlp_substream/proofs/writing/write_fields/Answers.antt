use Rattle.std.proofs.Common.{◌≡◌, length, List, Bool, ◌++◌, refl, ap, ◌∙◌}
use Rattle.mlp_layout.proofs.WritingLaws.{then_writes, stops_writing, writes_as}
use Rattle.mlp_substream.specs.Segment.{unknown}
use Rattle.mlp_substream.proofs.WritingEnds.{blocks_text, end_text, tail_blocks, tail_padding, tail_text}
use Rattle.mlp_substream.proofs.writing.write_fields.Goals as goal
use Rattle.mlp_substream.specs.Blocks.{context_of}

pub write_blocks-requires-clause-blocks : goal.write_blocks-requires-clause-blocks
write_blocks-requires-clause-blocks c =
    rw (c.deref.ensures.0, c.deref-2.ensures.0) (tail_blocks c.args.place.now unknown (context_of c.args.state.now 0 c.args.place.now.major) c.args.segment.now.checked c.args.segment.now c.requires.fits c.requires.meets)

pub returns-in_err-write_blocks-clause-text : goal.returns-in_err-write_blocks-clause-text
returns-in_err-write_blocks-clause-text c =
    let p = c.args.place.now in
    let s = c.args.segment.now in
    let at = context_of c.args.state.now 0 p.major in
    let here = length (blocks_text p unknown at s.checked s) in
    let a = rw (c.deref.ensures.0, c.deref-2.ensures.0) at c.in_err-write_blocks.ensures.text in
    writes_as (tail_text p unknown at s.checked s here refl) (stops_writing _ (end_text p unknown at s.checked s here) c.from_residual.result c.from_residual.ensures.1 a)

pub write_end-requires : goal.write_end-requires
write_end-requires c =
    let p = c.args.place.now in
    let s = c.args.segment.now in
    let at = context_of c.args.state.now 0 p.major in
    let a = rw (c.deref.ensures.0, c.deref-2.ensures.0) at c.in_ok-write_blocks.ensures.text in
    let written : c.write_blocks.new.w ≡ blocks_text p unknown at s.checked s = a.ok.appended ∙ ap (λ (t : List Bool). t ++ blocks_text p unknown at s.checked s) c.requires.empty in
    tail_padding p unknown at s.checked s c.requires.fits (length c.write_blocks.new.w) (ap (λ (t : List Bool). length t) written)

pub returns-clause-text : goal.returns-clause-text
returns-clause-text c =
    let p = c.args.place.now in
    let s = c.args.segment.now in
    let at = context_of c.args.state.now 0 p.major in
    let a = rw (c.deref.ensures.0, c.deref-2.ensures.0) at c.in_ok-write_blocks.ensures.text in
    let written : c.write_blocks.new.w ≡ blocks_text p unknown at s.checked s = a.ok.appended ∙ ap (λ (t : List Bool). t ++ blocks_text p unknown at s.checked s) c.requires.empty in
    writes_as (tail_text p unknown at s.checked s (length c.write_blocks.new.w) (ap (λ (t : List Bool). length t) written)) (then_writes a (c.write_end.ensures p.format))
