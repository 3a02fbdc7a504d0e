-- The frames of a channel in blocks one after the other.
use Rattle.std.proofs.Common.{◌≡◌, ℕ, ◌+◌, ◌-◌, ◌≤◌, Bool, true, false, List, [], ◌∷◌, ◌++◌, length, take, drop, get_or, map, Option, Some, None, ℤ, All, refl, sym, ap, ◌∙◌, arith, append_assoc, inl, inr}
use Rattle.std.specs.Prelude.{IfSome}
use Rattle.std.specs.Option.{IsSomeAnd}
use Rattle.std.proofs.lemmas.Bool.{cases_Bool}
use Rattle.std.proofs.lemmas.List.{length-append, length-take, take-append-le, drop-append-le, take-append-drop}
use Rattle.std.proofs.lemmas.List.Elements.{All-nil, All-cons, All-append, All-head, All-tail}
use Rattle.mlp_syntax.specs.declared.params.FilterState.{FilterState}
use Rattle.mlp_syntax.specs.declared.params.Filter.{Filter}
use Rattle.mlp_syntax.specs.declared.params.ChannelParams.{ChannelParams}
use Rattle.mlp_syntax.specs.declared.params.Params.{Params}
use Rattle.mlp_syntax.specs.declared.segment.BlockHead.{BlockHead}
use Rattle.mlp_syntax.specs.declared.segment.FrameCode.{FrameCode}
use Rattle.mlp_params.specs.declared.state.ChannelState.{ChannelState}
use Rattle.mlp_params.specs.declared.state.State.{State}
use Rattle.mlp_params.specs.States.{IsChannelState}
use Rattle.mlp_predict.specs.Outputs.{Frame, IsWithin, with_state_first}
use Rattle.mlp_predict.proofs.Scaling.{length-scaled}
use Rattle.mlp_substream.specs.declared.known.Place.{Place}
use Rattle.mlp_substream.specs.Blocks.{after_head, force_after, IsPlace, ForceFits}
use Rattle.mlp_substream.specs.Playable.{AreCoded, ArePlayable}
use Rattle.mlp_channels.specs.Channels.{channel_at, is_coded, frame_in, of_state, state_of_filter, state_of_channel, state_given, block_frames, channel_frames, codes_channel}
use Rattle.mlp_channels.specs.Given.{StateFits, FilterFits, GivesChannel, GivesChannels}
use Rattle.mlp_channels.proofs.GivenRanges.{order_most}
use Rattle.mlp_channels.proofs.CodedLaws.{coded_between, in_force, uncoded_frames, length-block_frames}
use Rattle.mlp_channels.proofs.HeadLaws.{head_lawful, head_gives, channels_kept, after_head_same, after_head_fresh}

-- ---- their filters and states are within what is kept of the past

state_few : (o : Option FilterState) → StateFits o → length (of_state o) ≤ 4
state_few None h = omega arith
state_few (Some s) h = omega (arith, length-scaled s.shift s.values.items, h.few)

filter_few : (o : Option (Filter 4)) → FilterFits o → length (state_of_filter o) ≤ 4
filter_few None h = omega arith
filter_few (Some f) h = state_few f.state h

channel_few : (o : Option ChannelParams) → IfSome o (λ c. FilterFits c.iir) → length (state_of_channel o) ≤ 4
channel_few None h = omega arith
channel_few (Some c) h = filter_few c.iir h

given_few : (o : Option Params) (i : ℕ) → IfSome o (GivesChannel i) → length (state_given o i) ≤ 4
given_few None i h = omega arith
given_few (Some p) i h = channel_few (get_or p.channels.items i None) h.state

frame_within : (s : State) (c : ℕ) (f : FrameCode) → IsChannelState (channel_at s c) → IsWithin 8 4 (frame_in s c f)
frame_within s c f h =
    let k : ChannelState = channel_at s c in
    record {
      fir = omega (arith, length-scaled k.fir.coeff_shift k.fir.coeffs.items, order_most 8 false k.fir h.fir);
      iir = omega (arith, length-scaled k.iir.coeff_shift k.iir.coeffs.items, order_most 4 false k.iir h.iir);
      state = omega arith;
    }

frames_within : (s : State) (c : ℕ) (codes : List FrameCode) → IsChannelState (channel_at s c) → All (IsWithin 8 4) (map (frame_in s c) codes)
frames_within s c [] h = All-nil (IsWithin 8 4)
frames_within s c (f ∷ codes) h = All-cons (IsWithin 8 4) (frame_in s c f) (map (frame_in s c) codes) (frame_within s c f h) (frames_within s c codes h)

first_within : (state : List ℤ) (fs : List Frame) → length state ≤ 4 → All (IsWithin 8 4) fs → All (IsWithin 8 4) (with_state_first state fs)
first_within state [] few h = h
first_within state (f ∷ fs) few h =
    let w = All-head (IsWithin 8 4) f fs h in
    let g : Frame = record f { state = state } in
    All-cons (IsWithin 8 4) g fs (record { fir = w.fir; iir = w.iir; state = few }) (All-tail (IsWithin 8 4) f fs h)

coded_within : (place : Place) (s : State) (h : BlockHead) (c : ℕ) (codes : List FrameCode) → ForceFits place (Some s) → AreCoded s codes → GivesChannels s h.params → is_coded s c ≡ true
    → All (IsWithin 8 4) (block_frames (Some s) h c codes)
coded_within place s h c codes fits coded gives e =
    let at = coded_between s c e in
    rw e (first_within _ _ (given_few h.params (c - s.restart.min) (gives (c - s.restart.min) (omega (arith, at.from, at.to)))) (frames_within s c codes (in_force s c fits.lawful coded.steps e).lawful))

block_within : (place : Place) (force : Option State) (h : BlockHead) (c : ℕ) (codes : List FrameCode) → ForceFits place force → IsSomeAnd force (λ s. AreCoded s codes) → IfSome force (λ s. GivesChannels s h.params)
    → All (IsWithin 8 4) (block_frames force h c codes)
block_within place None h c codes fits coded gives = All-nil (IsWithin 8 4)
block_within place (Some s) h c codes fits coded gives = elim (cases_Bool (is_coded s c)) [
  | inl e ↦ coded_within place s h c codes fits coded gives e
  | inr e ↦ rw (uncoded_frames (Some s) h c codes e) (All-nil (IsWithin 8 4))
]

module _ (place : Place) (ok : IsPlace place) (c : ℕ) where
  pub all_within : (force : Option State) (due : Bool) (hs : List BlockHead) (codes : List FrameCode) → ForceFits place force → ArePlayable place due force hs codes → All (IsWithin 8 4) (channel_frames place force c hs codes)
  unfolding ArePlayable channel_frames
  all_within force due [] codes fits h = All-nil (IsWithin 8 4)
  all_within force due (b ∷ hs) codes fits h =
      let after = head_lawful place force b ok fits h.0.head in
      All-append (IsWithin 8 4) _ _ (block_within place (after_head place force b) b c (take b.frames codes) after h.0.codes (head_gives place force b ok fits h.0.head))
      (all_within (after_head place force b) false hs (drop b.frames codes) after h.1)

-- ---- there are as many as codes

module _ (place : Place) (c : ℕ) where
  pub length-channel_frames : (force : Option State) (due : Bool) (hs : List BlockHead) (codes : List FrameCode) → ArePlayable place due force hs codes → codes_channel (force_after place force hs) c ≡ true
      → length (channel_frames place force c hs codes) ≡ length codes
  unfolding ArePlayable channel_frames
  length-channel_frames force due [] codes h e = ap (λ (cs : List FrameCode). length cs) (sym h)
  length-channel_frames force due (b ∷ hs) codes h e =
      let after = after_head place force b in
      let here = sym (channels_kept place after hs (drop b.frames codes) c h.1) ∙ e in
      let block = block_frames after b c (take b.frames codes) in
      let rest = channel_frames place after c hs (drop b.frames codes) in
      let later = length-channel_frames after false hs (drop b.frames codes) h.1 e in
      length-append block rest
      ∙ ap (λ (n : ℕ). n + length rest) (length-block_frames after b c (take b.frames codes) here)
      ∙ ap (λ (n : ℕ). length (take b.frames codes) + n) later
      ∙ sym (length-append (take b.frames codes) (drop b.frames codes))
      ∙ ap (λ (cs : List FrameCode). length cs) (take-append-drop b.frames codes)

  -- ---- blocks behind others

  pub channel_frames-append : (force : Option State) (due : Bool) (hs gs : List BlockHead) (codes later : List FrameCode) → ArePlayable place due force hs codes
      → channel_frames place force c (hs ++ gs) (codes ++ later) ≡ channel_frames place force c hs codes ++ channel_frames place (force_after place force hs) c gs later
  unfolding ArePlayable channel_frames
  channel_frames-append force due [] gs codes later h = ap (λ (cs : List FrameCode). channel_frames place force c gs (cs ++ later)) h
  channel_frames-append force due (b ∷ hs) gs codes later h =
      let after = after_head place force b in
      let n = b.frames in
      let enough : n ≤ length codes = let e = h.0.count in omega (arith, length-take n codes, e) in
      let block = block_frames after b c (take n codes) in
      ap (λ (cs : List FrameCode). block_frames after b c cs ++ channel_frames place after c (hs ++ gs) (drop n (codes ++ later))) (take-append-le n codes later enough)
      ∙ ap (λ (cs : List FrameCode). block ++ channel_frames place after c (hs ++ gs) cs) (drop-append-le n codes later enough)
      ∙ ap (λ (fs : List Frame). block ++ fs) (channel_frames-append after false hs gs (drop n codes) later h.1)
      ∙ sym (append_assoc block (channel_frames place after c hs (drop n codes)) (channel_frames place (force_after place after hs) c gs later))

  -- ---- what decides nothing of them

  pub channel_frames-same : (other : Place) (force : Option State) (hs : List BlockHead) (codes : List FrameCode) → place.format ≡ other.format → place.unit_frames ≡ other.unit_frames
      → channel_frames place force c hs codes ≡ channel_frames other force c hs codes
  unfolding channel_frames
  channel_frames-same other force [] codes a b = refl
  channel_frames-same other force (h ∷ hs) codes a b =
      let after = after_head place force h in
      ap (λ (fs : List Frame). block_frames after h c (take h.frames codes) ++ fs) (channel_frames-same other after hs (drop h.frames codes) a b)
      ∙ ap (λ (f : Option State). block_frames f h c (take h.frames codes) ++ channel_frames other f c hs (drop h.frames codes)) (after_head_same place other force h a b)

  pub channel_frames-fresh : (f g : Option State) (hs : List BlockHead) (codes : List FrameCode) → ArePlayable place true f hs codes → channel_frames place f c hs codes ≡ channel_frames place g c hs codes
  unfolding ArePlayable channel_frames
  channel_frames-fresh f g [] codes h = refl
  channel_frames-fresh f g (b ∷ hs) codes h = ap (λ (k : Option State). block_frames k b c (take b.frames codes) ++ channel_frames place k c hs (drop b.frames codes)) (after_head_fresh place f g b h.0.restarts)
