-- The blocks of a segment, one after the other.
use Rattle.std.proofs.Common.{◌≡◌, ℕ, ◌+◌, ◌<◌, ◌≤◌, Bool, true, false, List, [], ◌∷◌, ◌++◌, length, take, drop, get_or, Option, ℤ, refl, sym, ap, ◌∙◌, subst, arith, append_assoc}
use Rattle.std.proofs.lemmas.List.{append-nil, drop_more}
use borrow.Rule.Slice.PartMut.{put_mid}
use Rattle.mlp_syntax.specs.declared.segment.BlockHead.{BlockHead}
use Rattle.mlp_syntax.specs.declared.segment.FrameCode.{FrameCode}
use Rattle.mlp_params.specs.declared.state.State.{State}
use Rattle.mlp_predict.specs.Prediction.{Past}
use Rattle.mlp_predict.specs.Outputs.{Frame, outputs_from, past_from}
use Rattle.mlp_predict.proofs.FrameLists.{outputs_from-append, past_from-append}
use Rattle.mlp_substream.specs.declared.known.Place.{Place}
use Rattle.mlp_substream.specs.Blocks.{after_head, force_after, ForceFits}
use Rattle.mlp_substream.specs.Playable.{IsPlayable, ArePlayable}
use Rattle.mlp_channels.specs.Channels.{codes_channel, block_frames, channel_frames, column}
use Rattle.mlp_channels.specs.Playing.{past_of_channel, HasPlayedBlock, HasPlayedBlocks}
use Rattle.mlp_channels.proofs.ColumnLaws.{column-put_mid, column-put_same}
use Rattle.mlp_channels.proofs.HeadLaws.{channels_kept}

module _ (place : Place) (first : Option State) (heads : List BlockHead) (codes : List FrameCode) (before : List Past) (old : List (List ℤ)) where
  -- blocks were played whose outputs stand in the first n frames, and these are left: with them it is the whole
  pub record Left (state : Option State) (hs : List BlockHead) (cs : List FrameCode) (n : ℕ) (now : List Past) (new : List (List ℤ)) : Type 0 where
    pub due : Bool
    pub playable : ArePlayable place due state hs cs
    pub fits : ForceFits place state
    pub force : force_after place state hs ≡ force_after place first heads
    pub coded : (c : ℕ) → codes_channel (force_after place first heads) c ≡ true
        → outputs_from 8 4 (past_of_channel before c) (channel_frames place first c heads codes) ≡ take n (column c new) ++ outputs_from 8 4 (past_of_channel now c) (channel_frames place state c hs cs)
    pub others : (c : ℕ) → codes_channel (force_after place first heads) c ≡ false → column c new ≡ column c old
    pub pasts : (c : ℕ) → past_from 8 4 (past_of_channel before c) (channel_frames place first c heads codes) ≡ past_from 8 4 (past_of_channel now c) (channel_frames place state c hs cs)
    pub count : length now ≡ length before

  pub left_all : (due : Bool) → ArePlayable place due first heads codes → ForceFits place first → Left first heads codes 0 before old
  left_all due playable fits = record { due = due; playable = playable; fits = fits; force = refl; coded = λ c e. refl; others = λ c e. refl; pasts = λ c. refl; count = refl }

  pub this_block : (state : Option State) (h : BlockHead) (hs : List BlockHead) (cs : List FrameCode) (n : ℕ) (now : List Past) (new : List (List ℤ)) (l : Left state (h ∷ hs) cs n now new)
      → IsPlayable place l.due state h (take h.frames cs)
  unfolding ArePlayable
  this_block state h hs cs n now new l = l.playable.0

  -- the frames of a block stand in the place of those that were there
  pub record Played (state : Option State) (h : BlockHead) (cs : List FrameCode) (n : ℕ) (now later : List Past) (mid part : List (List ℤ)) : Type 0 where
    pub fits : ForceFits place (after_head place state h)
    pub played : HasPlayedBlock (after_head place state h) h (take h.frames cs) now later (take h.frames (drop n mid)) part
    pub count : length part ≡ h.frames
    pub within : n ≤ length mid

  module _ (state : Option State) (h : BlockHead) (hs : List BlockHead) (cs : List FrameCode) (n : ℕ) (now later : List Past) (mid part : List (List ℤ)) where
    module _ (l : Left state (h ∷ hs) cs n now mid) (b : Played state h cs n now later mid part) where
      abbrev after : Option State
      after = after_head place state h

      abbrev new : List (List ℤ)
      new = put_mid n h.frames mid part

      others_play : ArePlayable place false after hs (drop h.frames cs)
      unfolding ArePlayable
      others_play = l.playable.1

      same_channels : (c : ℕ) → codes_channel after c ≡ codes_channel (force_after place first heads) c
      same_channels c = sym (channels_kept place after hs (drop h.frames cs) c others_play) ∙ ap (λ (f : Option State). codes_channel f c) l.force

      next_coded : (c : ℕ) → codes_channel (force_after place first heads) c ≡ true
          → outputs_from 8 4 (past_of_channel before c) (channel_frames place first c heads codes) ≡ take (n + h.frames) (column c new) ++ outputs_from 8 4 (past_of_channel later c) (channel_frames place after c hs (drop h.frames cs))
      unfolding channel_frames
      next_coded c e =
          let p : Past = past_of_channel now c in
          let block : List Frame = block_frames after h c (take h.frames cs) in
          let rest : List Frame = channel_frames place after c hs (drop h.frames cs) in
          let here : outputs_from 8 4 p block ≡ column c part = sym (b.played.coded c (same_channels c ∙ e)) in
          let there : past_from 8 4 p block ≡ past_of_channel later c = sym (b.played.pasts c) in
          l.coded c e
          ∙ ap (λ (xs : List ℤ). take n (column c mid) ++ xs)
          (outputs_from-append 8 4 p block rest ∙ ap (λ (xs : List ℤ). xs ++ outputs_from 8 4 (past_from 8 4 p block) rest) here ∙ ap (λ (q : Past). column c part ++ outputs_from 8 4 q rest) there)
          ∙ sym (append_assoc (take n (column c mid)) (column c part) (outputs_from 8 4 (past_of_channel later c) rest))
          ∙ ap (λ (xs : List ℤ). xs ++ outputs_from 8 4 (past_of_channel later c) rest) (sym (column-put_mid c n h.frames (n + h.frames) mid part (omega (arith, b.count)) b.within))

      next_others : (c : ℕ) → codes_channel (force_after place first heads) c ≡ false → column c new ≡ column c old
      next_others c e = column-put_same c n h.frames mid part (b.played.others c (same_channels c ∙ e)) ∙ l.others c e

      next_pasts : (c : ℕ) → past_from 8 4 (past_of_channel before c) (channel_frames place first c heads codes) ≡ past_from 8 4 (past_of_channel later c) (channel_frames place after c hs (drop h.frames cs))
      unfolding channel_frames
      next_pasts c =
          let p : Past = past_of_channel now c in
          let block : List Frame = block_frames after h c (take h.frames cs) in
          let rest : List Frame = channel_frames place after c hs (drop h.frames cs) in
          l.pasts c ∙ past_from-append 8 4 p block rest ∙ ap (λ (q : Past). past_from 8 4 q rest) (sym (b.played.pasts c))

      pub left_more : Left after hs (drop h.frames cs) (n + h.frames) later new
      left_more = record { due = false; playable = others_play; fits = b.fits; force = l.force; coded = next_coded; others = next_others; pasts = next_pasts; count = b.played.count ∙ l.count }

      -- .. as the loop has it
      pub left_step : (state' : Option State) (cs' : List FrameCode) (n' : ℕ) (new' : List (List ℤ)) → state' ≡ after → cs' ≡ drop h.frames cs → n' ≡ n + h.frames → new' ≡ new → Left state' hs cs' n' later new'
      left_step state' cs' n' new' a b' c d =
          subst (λ (s : Option State). Left s hs cs' n' later new') (sym a)
          (subst (λ (xs : List FrameCode). Left after hs xs n' later new') (sym b')
          (subst (λ (k : ℕ). Left after hs (drop h.frames cs) k later new') (sym c)
          (subst (λ (xs : List (List ℤ)). Left after hs (drop h.frames cs) (n + h.frames) later xs) (sym d) left_more)))

  -- the next block
  pub left_next : (state : Option State) (i : ℕ) (h : BlockHead) (cs : List FrameCode) (n : ℕ) (now : List Past) (new : List (List ℤ)) → i < length heads → h ≡ get_or heads i h → Left state (drop i heads) cs n now new
      → Left state (h ∷ drop (i + 1) heads) cs n now new
  left_next state i h cs n now new l e left =
      let rest = drop_more heads i h l ∙ ap (λ (g : BlockHead). g ∷ drop (i + 1) heads) (sym e) in
      subst (λ (hs : List BlockHead). Left state hs cs n now new) rest left

  module _ (state : Option State) (cs : List FrameCode) (n : ℕ) (now : List Past) (new : List (List ℤ)) (l : Left state [] cs n now new) where
    pub none_left : cs ≡ []
    unfolding ArePlayable
    none_left = l.playable

    pub left_none : HasPlayedBlocks place first heads codes n before now old new
    unfolding channel_frames
    left_none = record {
      coded = λ c e. sym (l.coded c e ∙ append-nil (take n (column c new)));
      others = l.others;
      pasts = λ c. sym (l.pasts c);
      count = l.count;
    }
