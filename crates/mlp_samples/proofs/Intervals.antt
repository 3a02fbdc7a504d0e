-- One unit more in an interval: what it gives and what it leaves, by the whole sequences since the major sync.
use Rattle.std.proofs.Common.{◌≡◌, ℕ, ◌+◌, ◌<◌, Bool, true, false, List, [], ◌∷◌, ◌++◌, length, get_or, reverse, Option, None, ℤ, pos, sym, ap, ◌∙◌, arith, append_assoc}
use Rattle.std.specs.Prelude.{All}
use Rattle.std.proofs.lemmas.List.{append-nil, length-append, get_or-append-add}
use Rattle.mlp_syntax.specs.declared.segment.BlockHead.{BlockHead}
use Rattle.mlp_syntax.specs.declared.segment.FrameCode.{FrameCode}
use Rattle.mlp_syntax.specs.declared.segment.Segment.{Segment}
use Rattle.mlp_params.specs.declared.state.State.{State}
use Rattle.mlp_params.specs.InForce.{behind_blocks}
use Rattle.mlp_predict.specs.Prediction.{Past, zeros}
use Rattle.mlp_predict.specs.Outputs.{Frame, IsWithin, frame_at, outputs_at, outputs_from, past_from}
use Rattle.mlp_predict.proofs.FrameLists.{length-outputs_from, outputs_from-append, past_from-append, frames_give, frames_leave}
use Rattle.mlp_substream.specs.declared.known.Place.{Place}
use Rattle.mlp_substream.specs.Blocks.{force_after, IsPlace}
use Rattle.mlp_substream.specs.Playable.{ArePlayable}
use Rattle.mlp_substream.proofs.InForceLaws.{behind_more}
use Rattle.mlp_channels.specs.Channels.{Coded, codes_channel, channel_frames, past_before, frames_in, outputs_in}
use Rattle.mlp_channels.proofs.FrameLaws.{all_within, length-channel_frames, channel_frames-append}
use Rattle.mlp_contents.specs.Units.{Unit_of, top_of}
use Rattle.mlp_samples.specs.Samples.{blocks_in, frame_codes, in_force_in, frames_in_units}
use Rattle.mlp_samples.specs.Leaving.{latest_of}
use Rattle.mlp_samples.proofs.BlockRuns.{force_join, frames_none, CanPlay}

-- ---- lists over units, one unit more

pub blocks_more : (j : ℕ) (us : List Unit_of) (u : Unit_of) → blocks_in j (us ++ u ∷ []) ≡ blocks_in j us ++ (top_of j u.contents).blocks.items
blocks_more j [] u = append-nil (top_of j u.contents).blocks.items
blocks_more j (v ∷ us) u =
    ap (λ (bs : List BlockHead). (top_of j v.contents).blocks.items ++ bs) (blocks_more j us u)
    ∙ sym (append_assoc (top_of j v.contents).blocks.items (blocks_in j us) (top_of j u.contents).blocks.items)

pub codes_more : (j : ℕ) (us : List Unit_of) (u : Unit_of) → frame_codes j (us ++ u ∷ []) ≡ frame_codes j us ++ (top_of j u.contents).codes.items
codes_more j [] u = append-nil (top_of j u.contents).codes.items
codes_more j (v ∷ us) u =
    ap (λ (cs : List FrameCode). (top_of j v.contents).codes.items ++ cs) (codes_more j us u)
    ∙ sym (append_assoc (top_of j v.contents).codes.items (frame_codes j us) (top_of j u.contents).codes.items)

-- what is in force is what the blocks leave from nothing on
pub in_force_is : (place : Place) (j : ℕ) (us : List Unit_of) → in_force_in place j us ≡ force_after place None (blocks_in j us)
in_force_is place j us =
    ap (λ (bs : List BlockHead). behind_blocks place.format place.unit_frames bs) (sym (append-nil (reverse (blocks_in j us))))
    ∙ sym (behind_more place (blocks_in j us) [])

-- ---- one substream

-- of substream j: what it held before a unit's segment, the segment, and the units of the interval before it
pub record Continues (place here : Place) (j : ℕ) (before : List Unit_of) (x : Coded) (s : Segment) : Type 0 where
  pub due : Bool
  -- the blocks before and those of the segment can be played
  pub played : CanPlay place None (blocks_in j before) (frame_codes j before)
  pub playable : ArePlayable place due (force_after place None (blocks_in j before)) s.blocks.items s.codes.items
  pub joined : CanPlay place None (blocks_in j before ++ s.blocks.items) (frame_codes j before ++ s.codes.items)
  pub force : force_after here x.force s.blocks.items ≡ force_after place (force_after place None (blocks_in j before)) s.blocks.items
  pub past : (c : ℕ) → c < 8 → past_before here x c ≡ past_from 8 4 (zeros 8 4) (frames_in_units place j before c)
  pub frames : (c : ℕ) → frames_in here x s c ≡ channel_frames place (force_after place None (blocks_in j before)) c s.blocks.items s.codes.items

module _ (place here : Place) (ok : IsPlace place) (j : ℕ) (before : List Unit_of) (x : Coded) (s : Segment) (h : Continues place here j before x s) where
  abbrev old_blocks : List BlockHead
  old_blocks = blocks_in j before

  abbrev old_codes : List FrameCode
  old_codes = frame_codes j before

  abbrev all_blocks : List BlockHead
  all_blocks = old_blocks ++ s.blocks.items

  abbrev all_codes : List FrameCode
  all_codes = old_codes ++ s.codes.items

  abbrev middle : Option State
  middle = force_after place None old_blocks

  -- what is in force behind the segment
  pub force_behind : force_after here x.force s.blocks.items ≡ force_after place None all_blocks
  force_behind = h.force ∙ sym (force_join place None old_blocks s.blocks.items)

  module _ (c : ℕ) where
    abbrev old_frames : List Frame
    old_frames = channel_frames place None c old_blocks old_codes

    abbrev new_frames : List Frame
    new_frames = channel_frames place middle c s.blocks.items s.codes.items

    abbrev all_frames : List Frame
    all_frames = channel_frames place None c all_blocks all_codes

    joined_frames : all_frames ≡ old_frames ++ new_frames
    joined_frames = channel_frames-append place c None h.played.0 old_blocks s.blocks.items old_codes s.codes.items h.played.1

    within : All (IsWithin 8 4) all_frames
    within = all_within place ok c None h.joined.0 all_blocks all_codes tt h.joined.1

    -- the past behind the segment
    pub past_behind : c < 8 → past_from 8 4 (past_before here x c) (frames_in here x s c) ≡ latest_of all_frames
    past_behind few =
        ap (λ (fs : List Frame). past_from 8 4 (past_before here x c) fs) (h.frames c)
        ∙ ap (λ (p : Past). past_from 8 4 p new_frames) (h.past c few)
        ∙ sym (past_from-append 8 4 (zeros 8 4) old_frames new_frames)
        ∙ ap (λ (fs : List Frame). past_from 8 4 (zeros 8 4) fs) (sym joined_frames)
        ∙ frames_leave 8 4 all_frames within

    module _ (coded : codes_channel (force_after place None all_blocks) c ≡ true) where
      old_count : length old_frames ≡ length old_codes
      old_count =
          let all = length-channel_frames place c None h.joined.0 all_blocks all_codes h.joined.1 coded in
          let new = length-channel_frames place c middle h.due s.blocks.items s.codes.items h.playable (ap (λ (f : Option State). codes_channel f c) (sym (force_join place None old_blocks s.blocks.items)) ∙ coded) in
          let whole = ap (λ (fs : List Frame). length fs) joined_frames in
          omega (arith, all, new, whole, length-append old_frames new_frames, length-append old_codes s.codes.items)

      all_count : length all_frames ≡ length all_codes
      all_count = length-channel_frames place c None h.joined.0 all_blocks all_codes h.joined.1 coded

      -- item i of the outputs of the segment
      pub output_at : c < 8 → (i n : ℕ) → i < length s.codes.items → n ≡ length old_codes → get_or (outputs_in here x s c) i (pos 0) ≡ outputs_at (frame_at all_frames) (n + i)
      unfolding outputs_in
      output_at few i n lt same =
          let before_these : List ℤ = outputs_from 8 4 (zeros 8 4) old_frames in
          let these : outputs_from 8 4 (past_before here x c) (frames_in here x s c) ≡ outputs_from 8 4 (past_from 8 4 (zeros 8 4) old_frames) new_frames =
          ap (λ (fs : List Frame). outputs_from 8 4 (past_before here x c) fs) (h.frames c) ∙ ap (λ (p : Past). outputs_from 8 4 p new_frames) (h.past c few) in
          let all : outputs_from 8 4 (zeros 8 4) all_frames ≡ before_these ++ outputs_from 8 4 (past_from 8 4 (zeros 8 4) old_frames) new_frames =
          ap (λ (fs : List Frame). outputs_from 8 4 (zeros 8 4) fs) joined_frames ∙ outputs_from-append 8 4 (zeros 8 4) old_frames new_frames in
          let count : length before_these ≡ n = length-outputs_from 8 4 (zeros 8 4) old_frames ∙ old_count ∙ sym same in
          ap (λ (xs : List ℤ). get_or xs i (pos 0)) these
          ∙ sym (get_or-append-add before_these (outputs_from 8 4 (past_from 8 4 (zeros 8 4) old_frames) new_frames) i (pos 0))
          ∙ ap (λ (xs : List ℤ). get_or xs (length before_these + i) (pos 0)) (sym all)
          ∙ ap (λ (m : ℕ). get_or (outputs_from 8 4 (zeros 8 4) all_frames) (m + i) (pos 0)) count
          ∙ frames_give 8 4 all_frames within (n + i) (pos 0) (omega (arith, all_count, same, length-append old_codes s.codes.items))

    -- a channel that isn't coded has no frames
    pub none_coded : codes_channel (force_after place None all_blocks) c ≡ false → all_frames ≡ []
    none_coded e = frames_none place h.joined.0 None c all_blocks all_codes h.joined.1 e
