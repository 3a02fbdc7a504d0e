use Rattle.std.proofs.Common.{◌≡◌, ◌∙◌, List, ℤ, Option, length, ap, subst}
use Rattle.mlp_syntax.specs.declared.segment.BlockHead.{BlockHead}
use Rattle.mlp_syntax.specs.declared.segment.FrameCode.{FrameCode}
use Rattle.mlp_syntax.specs.declared.segment.Segment.{Segment}
use Rattle.mlp_params.specs.declared.state.State.{State}
use Rattle.mlp_predict.specs.Prediction.{Past}
use Rattle.mlp_substream.specs.declared.known.Place.{Place}
use Rattle.mlp_substream.specs.Blocks.{force_after}
use Rattle.mlp_channels.specs.Channels.{Coded}
use Rattle.mlp_channels.specs.Playing.{HasPlayedBlocks}
use Rattle.mlp_channels.proofs.UnitLaws.{unit_played, unit_leaves}
use Rattle.mlp_channels.proofs.play.play.Goals as goal

-- the same of the segment's own blocks and codes
of_segment : (place : Place) (force : Option State) (s : Segment) (heads : List BlockHead) (codes : List FrameCode) (before start after : List Past) (old new : List (List ℤ))
    → heads ≡ s.blocks.items → codes ≡ s.codes.items → before ≡ start
    → HasPlayedBlocks place force heads codes (length codes) before after old new → HasPlayedBlocks place force s.blocks.items s.codes.items (length s.codes.items) start after old new
of_segment place force s heads codes before start after old new a b d h =
    subst (λ (hs : List BlockHead). HasPlayedBlocks place force hs s.codes.items (length s.codes.items) start after old new) a
    (subst (λ (cs : List FrameCode). HasPlayedBlocks place force heads cs (length cs) start after old new) b
    (subst (λ (ps : List Past). HasPlayedBlocks place force heads codes (length codes) ps after old new) d h))

pub returns-clause-coded : goal.returns-clause-coded
returns-clause-coded c =
    let place = c.args.place.now in
    let s = c.args.segment.now in
    let x : Coded = record { force = c.args.state.now; pasts = c.args.predictors.now } in
    let after = c.play_blocks.new.predictors in
    let h = of_segment place x.force s c.deref.result.now c.deref-2.result.now c.reset_at.new.predictors _ after c.args.frames.now c.play_blocks.new.frames
    c.deref.ensures.0 c.deref-2.ensures.0 c.reset_at.ensures c.play_blocks.ensures.played in
    unit_leaves place x s after c.args.frames.now c.play_blocks.new.frames h c.play_blocks.new.state (c.play_blocks.ensures.force ∙ ap (λ (hs : List BlockHead). force_after place x.force hs) c.deref.ensures.0)
    c.told-predictors

pub returns-clause-played : goal.returns-clause-played
returns-clause-played c =
    let place = c.args.place.now in
    let s = c.args.segment.now in
    let x : Coded = record { force = c.args.state.now; pasts = c.args.predictors.now } in
    let after = c.play_blocks.new.predictors in
    let h = of_segment place x.force s c.deref.result.now c.deref-2.result.now c.reset_at.new.predictors _ after c.args.frames.now c.play_blocks.new.frames
    c.deref.ensures.0 c.deref-2.ensures.0 c.reset_at.ensures c.play_blocks.ensures.played in
    unit_played place x s after c.args.frames.now c.play_blocks.new.frames h
