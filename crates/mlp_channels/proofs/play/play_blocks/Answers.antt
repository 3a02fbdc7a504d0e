use Rattle.std.proofs.Common.{◌≡◌, ◌+◌, ◌-◌, ◌≤◌, ℕ, List, [], length, take, drop, Option, refl, sym, ap, subst, arith}
use Rattle.std.proofs.lemmas.List.{length-take, length-drop, drop-drop, drop_all}
use borrow.Rule.Slice.PartMut.{put_mid}
use Rattle.mlp_syntax.specs.declared.segment.BlockHead.{BlockHead}
use Rattle.mlp_syntax.specs.declared.segment.FrameCode.{FrameCode}
use Rattle.mlp_params.specs.declared.state.State.{State}
use Rattle.mlp_substream.specs.Blocks.{ForceFits}
use Rattle.mlp_substream.specs.Playable.{IsPlayable}
use Rattle.mlp_channels.specs.Playing.{HasPlayedBlock, HasPlayedBlocks}
use Rattle.mlp_channels.proofs.BlockLoop.{Left, left_all, this_block, left_step, left_next, none_left, left_none}
use Rattle.mlp_channels.proofs.play.play_blocks.Goals as goal

-- so many from a place on, counted by where they end
all_of : (start n : ℕ) → start + n - start ≡ n
all_of start n = omega arith

-- a block's codes are there
enough : (start n : ℕ) (codes : List FrameCode) → start ≤ length codes → length (take n (drop start codes)) ≡ n → start + n ≤ length codes
enough start n codes le e = omega (arith, length-take n (drop start codes), length-drop start codes, e)

all_played : (start : ℕ) (codes : List FrameCode) → start ≤ length codes → drop start codes ≡ [] → start ≡ length codes
all_played start codes le e = omega (arith, length-drop start codes, ap (λ (cs : List FrameCode). length cs) e)

pub loop-i-init : goal.loop-i-init
loop-i-init c = record {
  left = left_all c.args.place.now c.args.state.now c.args.heads.now c.args.codes.now c.args.predictors.now c.args.frames.now c.requires.playable.0 c.requires.playable.1 c.requires.state;
  within = omega arith;
}

pub slice_bounds-play_block-end : goal.slice_bounds-play_block-end
slice_bounds-play_block-end c =
    let i = c.loop-i.invariant in
    let h = c.index-heads-i.result in
    let rest = drop c.loop-i.start c.args.codes.now in
    let l = left_next c.args.place.now c.args.state.now c.args.heads.now c.args.codes.now c.args.predictors.now c.args.frames.now c.loop-i.state c.loop-i.i h rest c.loop-i.start c.loop-i.predictors c.loop-i.frames
    c.loop-i-test.true c.index-heads-i.is i.left in
    let b = this_block c.args.place.now c.args.state.now c.args.heads.now c.args.codes.now c.args.predictors.now c.args.frames.now c.loop-i.state h
    (drop (c.loop-i.i + 1) c.args.heads.now) rest c.loop-i.start c.loop-i.predictors c.loop-i.frames l in
    let there = enough c.loop-i.start h.frames c.args.codes.now i.within b.count in
    omega (arith, there)

pub play_block-requires-clause-state : goal.play_block-requires-clause-state
play_block-requires-clause-state c = c.loop-i.invariant.left.fits

pub play_block-requires-clause-playable : goal.play_block-requires-clause-playable
play_block-requires-clause-playable c =
    let i = c.loop-i.invariant in
    let h = c.index-heads-i.result in
    let start = c.loop-i.start in
    let rest = drop start c.args.codes.now in
    let l = left_next c.args.place.now c.args.state.now c.args.heads.now c.args.codes.now c.args.predictors.now c.args.frames.now c.loop-i.state c.loop-i.i h rest start c.loop-i.predictors c.loop-i.frames
    c.loop-i-test.true c.index-heads-i.is i.left in
    let b = this_block c.args.place.now c.args.state.now c.args.heads.now c.args.codes.now c.args.predictors.now c.args.frames.now c.loop-i.state h (drop (c.loop-i.i + 1) c.args.heads.now) rest start c.loop-i.predictors c.loop-i.frames l in
    (l.due, subst (λ (k : ℕ). IsPlayable c.args.place.now l.due c.loop-i.state h (take k rest)) (sym (all_of start h.frames)) b)

pub loop-i-preserved : goal.loop-i-preserved
loop-i-preserved c =
    let i = c.loop-i.invariant in
    let place = c.args.place.now in
    let h = c.index-heads-i.result in
    let start = c.loop-i.start in
    let codes = c.args.codes.now in
    let now = c.loop-i.predictors in
    let later = c.play_block.new.predictors in
    let mid = c.loop-i.frames in
    let part = c.play_block.new.frames in
    let rest = drop start codes in
    let heads = drop (c.loop-i.i + 1) c.args.heads.now in
    let l = left_next place c.args.state.now c.args.heads.now codes c.args.predictors.now c.args.frames.now c.loop-i.state c.loop-i.i h rest start now mid c.loop-i-test.true c.index-heads-i.is i.left in
    let b = this_block place c.args.state.now c.args.heads.now codes c.args.predictors.now c.args.frames.now c.loop-i.state h heads rest start now mid l in
    let there = enough start h.frames codes i.within b.count in
    let whole = all_of start h.frames in
    let fits = subst (λ (f : Option State). ForceFits place f) c.play_block.ensures.force c.play_block.ensures.state in
    let played = subst (λ (f : Option State). HasPlayedBlock f h (take h.frames rest) now later (take h.frames (drop start mid)) part) c.play_block.ensures.force
    (subst (λ (k : ℕ). HasPlayedBlock c.play_block.new.state h (take k rest) now later (take k (drop start mid)) part) whole c.play_block.ensures.played) in
    let count : length part ≡ h.frames = omega (arith, whole, c.play_block.auto.frames, length-take (start + h.frames - start) (drop start mid), length-drop start mid, c.loop-i.auto.frames, c.requires.frames) in
    record {
      left = left_step place c.args.state.now c.args.heads.now codes c.args.predictors.now c.args.frames.now c.loop-i.state h heads rest start now later mid part l
          (record { fits = fits; played = played; count = count; within = omega (arith, c.loop-i.auto.frames, c.requires.frames, i.within) })
          c.play_block.new.state (drop (start + h.frames) codes) (start + h.frames) (put_mid start (start + h.frames - start) mid part)
          c.play_block.ensures.force (sym (drop-drop h.frames start codes)) refl (ap (λ (k : ℕ). put_mid start k mid part) whole);
      within = there;
    }

pub returns-clause-force : goal.returns-clause-force
returns-clause-force c =
    let l = subst (λ (hs : List BlockHead). Left c.args.place.now c.args.state.now c.args.heads.now c.args.codes.now c.args.predictors.now c.args.frames.now c.loop-i.state hs
    (drop c.loop-i.start c.args.codes.now) c.loop-i.start c.loop-i.predictors c.loop-i.frames)
    (drop_all c.loop-i.i c.args.heads.now c.loop-i-test.false) c.loop-i.invariant.left in
    l.force

pub returns-clause-played : goal.returns-clause-played
returns-clause-played c =
    let start = c.loop-i.start in
    let codes = c.args.codes.now in
    let l = subst (λ (hs : List BlockHead). Left c.args.place.now c.args.state.now c.args.heads.now codes c.args.predictors.now c.args.frames.now c.loop-i.state hs (drop start codes) start c.loop-i.predictors c.loop-i.frames)
    (drop_all c.loop-i.i c.args.heads.now c.loop-i-test.false) c.loop-i.invariant.left in
    let none = none_left c.args.place.now c.args.state.now c.args.heads.now codes c.args.predictors.now c.args.frames.now c.loop-i.state (drop start codes) start c.loop-i.predictors c.loop-i.frames l in
    subst (λ (n : ℕ). HasPlayedBlocks c.args.place.now c.args.state.now c.args.heads.now codes n c.args.predictors.now c.loop-i.predictors c.args.frames.now c.loop-i.frames) (all_played start codes c.loop-i.invariant.within none)
    (left_none c.args.place.now c.args.state.now c.args.heads.now codes c.args.predictors.now c.args.frames.now c.loop-i.state (drop start codes) start c.loop-i.predictors c.loop-i.frames l)
