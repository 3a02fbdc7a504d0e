use Rattle.std.proofs.Common.{ℕ, length, Option, sym, ap, subst, ◌∙◌}
use Rattle.mlp_layout.specs.Writing.{Writes}
use Rattle.mlp_layout.proofs.WritingLaws.{then_writes, stops_writing, writes_as}
use Rattle.mlp_params.specs.declared.state.State.{State}
use Rattle.mlp_residual.specs.Frames.{frames_of}
use Rattle.mlp_substream.specs.Blocks.{Block, against, after_head, steps_fit_in, context_of}
use Rattle.mlp_substream.specs.Segment.{unknown}
use Rattle.mlp_substream.proofs.BlockLaws.{block_fits}
use Rattle.mlp_substream.proofs.WritingParts.{block_parts, block_text}
use Rattle.mlp_substream.proofs.writing_blocks.write_block.Goals as goal

pub write_head-requires-clause-head : goal.write_head-requires-clause-head
write_head-requires-clause-head c =
    let b : Block = record { head = c.args.head.now; frames = c.args.frames.now } in
    let at = context_of c.args.state.now c.requires.block.0 c.requires.block.1 in
    (c.requires.block.1, (block_parts c.args.place.now unknown at b c.requires.block.2).head)

pub returns-in_err-write_head-clause-text : goal.returns-in_err-write_head-clause-text
returns-in_err-write_head-clause-text c = λ so_far due.
    let p = c.args.place.now in
    let b : Block = record { head = c.args.head.now; frames = c.args.frames.now } in
    let later = (against (after_head p c.args.state.now b.head) (λ s. frames_of s b.head.frames)).spelling b.frames in
    writes_as (block_text p unknown (context_of c.args.state.now so_far due) b) (stops_writing _ later c.from_residual.result c.from_residual.ensures.1 (c.in_err-write_head.ensures.text due))

pub write_codes-requires-clause-steps : goal.write_codes-requires-clause-steps
write_codes-requires-clause-steps c =
    let b : Block = record { head = c.args.head.now; frames = c.args.frames.now } in
    let at = context_of c.args.state.now c.requires.block.0 c.requires.block.1 in
    ap steps_fit_in c.in_ok-write_head.ensures.force ∙ (block_parts c.args.place.now unknown at b c.requires.block.2).steps

pub write_codes-requires-clause-frames : goal.write_codes-requires-clause-frames
write_codes-requires-clause-frames c =
    let b : Block = record { head = c.args.head.now; frames = c.args.frames.now } in
    let at = context_of c.args.state.now c.requires.block.0 c.requires.block.1 in
    let a = c.requires.block.2 in
    let counted = subst (λ (n : ℕ). (against (after_head c.args.place.now c.args.state.now b.head) (λ s. frames_of s n)).Fits b.frames)
    (sym (block_fits c.args.place.now unknown at b a.fits)) (block_parts c.args.place.now unknown at b a).frames in
    subst (λ (s : Option State). (against s (λ s. frames_of s (length b.frames))).Fits b.frames) (sym c.in_ok-write_head.ensures.force) counted

pub returns-clause-text : goal.returns-clause-text
returns-clause-text c = λ so_far due.
    let p = c.args.place.now in
    let b : Block = record { head = c.args.head.now; frames = c.args.frames.now } in
    let at = context_of c.args.state.now c.requires.block.0 c.requires.block.1 in
    let a = c.requires.block.2 in
    let counted = subst (λ (n : ℕ). Writes c.write_head.new.w c.write_codes.new.w c.write_codes.result ((against c.write_head.new.state (λ s. frames_of s n)).spelling b.frames))
    (block_fits p unknown at b a.fits) c.write_codes.ensures in
    let codes = subst (λ (s : Option State). Writes c.write_head.new.w c.write_codes.new.w c.write_codes.result ((against s (λ s. frames_of s b.head.frames)).spelling b.frames)) c.in_ok-write_head.ensures.force counted in
    writes_as (block_text p unknown (context_of c.args.state.now so_far due) b) (then_writes (c.in_ok-write_head.ensures.text due) codes)
