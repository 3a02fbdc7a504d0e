use Rattle.std.proofs.Common.{◌≡◌, ℕ, ◌+◌, ◌-◌, ◌++◌, eqb, length, take, drop, sym, subst, arith}
use Rattle.std.proofs.lemmas.Result.{err_from_is_err_and}
use Rattle.mlp_layout.specs.Combined.{flag}
use Rattle.mlp_layout.specs.Allowed.{Allowed}
use Rattle.mlp_substream.specs.Blocks.{Block, block, context_of}
use Rattle.mlp_substream.specs.Segment.{unknown}
use Rattle.mlp_layout.specs.Writing.{Wrote, Filled}
use Rattle.mlp_substream.proofs.WritingBlocks.{going_begins, block_allowed, codes_there, going_stops, going_goes_on, going_ends}
use Rattle.mlp_substream.proofs.writing_blocks.write_blocks.Goals as goal

pub loop-i-init : goal.loop-i-init
loop-i-init c = going_begins c.args.place.now unknown 21 c.args.place.now.major c.args.state.now c.args.heads.now c.args.codes.now c.args.w.now c.place-place.ensures.small c.requires.state c.requires.blocks

pub slice_bounds-write_marked-end : goal.slice_bounds-write_marked-end
slice_bounds-write_marked-end c =
    let there = codes_there c.args.place.now unknown c.args.state.now c.loop-i.state c.args.heads.now c.args.codes.now c.loop-i.i
    c.loop-i.start c.args.w.now c.loop-i.w _ c.loop-i.invariant c.index-heads-i.result c.loop-i-test.true c.index-heads-i.is in
    omega (arith, there, c.from.ensures)

pub write_marked-requires-clause-block : goal.write_marked-requires-clause-block
write_marked-requires-clause-block c =
    let h = c.index-heads-i.result in
    let cs = c.args.codes.now in
    let start = c.loop-i.start in
    let due = c.loop-i.invariant.due in
    let count : start + c.from.result - start ≡ h.frames = omega (arith, c.from.ensures) in
    let here = block_allowed c.args.place.now unknown c.args.state.now c.loop-i.state c.args.heads.now cs c.loop-i.i start c.args.w.now c.loop-i.w _ c.loop-i.invariant h c.loop-i-test.true c.index-heads-i.is in
    let block-is = λ (n : ℕ). let b : Block = record { head = h; frames = take n (drop start cs) } in Allowed (block c.args.place.now unknown (context_of c.loop-i.state start due)) b in
    (start, due, subst block-is (sym count) here)

pub returns-in_err-write_marked-clause-text : goal.returns-in_err-write_marked-clause-text
returns-in_err-write_marked-clause-text c =
    let p = err_from_is_err_and c.from_residual.result c.from_residual.ensures.1 in
    let h = c.index-heads-i.result in
    let cs = c.args.codes.now in
    let start = c.loop-i.start in
    let due = c.loop-i.invariant.due in
    let count : start + c.from.result - start ≡ h.frames = omega (arith, c.from.ensures) in
    let filled = (c.in_err-write_marked.ensures.text start due).err in
    let here = subst (λ (n : ℕ). let b : Block = record { head = h; frames = take n (drop start cs) } in
    Filled c.loop-i.w c.write_marked.new.w ((block c.args.place.now unknown (context_of c.loop-i.state start due)).spelling b ++ flag.spelling (eqb (c.loop-i.i + 1) (length c.args.heads.now)))) count filled in
    rw p.1 (record {
      ok = tt;
      err = going_stops c.args.place.now unknown c.args.state.now c.loop-i.state c.args.heads.now cs c.loop-i.i
          start c.args.w.now c.loop-i.w _ c.loop-i.invariant h c.loop-i-test.true c.index-heads-i.is c.write_marked.new.w here;
    })

pub loop-i-preserved : goal.loop-i-preserved
loop-i-preserved c =
    let h = c.index-heads-i.result in
    let cs = c.args.codes.now in
    let start = c.loop-i.start in
    let due = c.loop-i.invariant.due in
    let count : start + c.from.result - start ≡ h.frames = omega (arith, c.from.ensures) in
    let wrote = (c.in_ok-write_marked.ensures.text start due).ok in
    let here = subst (λ (n : ℕ). let b : Block = record { head = h; frames = take n (drop start cs) } in
    Wrote c.loop-i.w c.write_marked.new.w ((block c.args.place.now unknown (context_of c.loop-i.state start due)).spelling b ++ flag.spelling (eqb (c.loop-i.i + 1) (length c.args.heads.now)))) count wrote in
    rw c.from.ensures (going_goes_on c.args.place.now unknown c.args.state.now c.loop-i.state c.args.heads.now cs c.loop-i.i start c.args.w.now c.loop-i.w _ c.loop-i.invariant
    h c.loop-i-test.true c.index-heads-i.is c.write_marked.new.w c.write_marked.new.state c.in_ok-write_marked.ensures.force c.in_ok-write_marked.ensures.state here)

pub returns-clause-text : goal.returns-clause-text
returns-clause-text c =
    record { ok = going_ends c.args.place.now unknown c.args.state.now c.loop-i.state c.args.heads.now c.args.codes.now c.loop-i.i c.loop-i.start c.args.w.now c.loop-i.w _ c.loop-i.invariant c.loop-i-test.false; err = tt }
