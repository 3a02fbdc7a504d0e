-- A channel that is coded: what is in force in it, and its frames.
use Rattle.std.proofs.Common.{◌≡◌, ℕ, zero, suc, ◌+◌, ◌-◌, ◌<◌, ◌≤◌, ◌^◌, true, false, leb, List, [], ◌∷◌, length, get_or, drop, map, Option, Some, None, ℤ, All, refl, ap, ◌∙◌, subst, arith}
use Rattle.std.proofs.lemmas.Bool.{and_parts, and_from, leb-true, le-leb, lt-leb, and_left, and_right}
use Rattle.std.proofs.lemmas.List.{length-drop, get_or-drop, length-map}
use Rattle.std.proofs.lemmas.List.Elements.{All-nil, All-cons}
use Rattle.mlp_syntax.specs.declared.segment.BlockHead.{BlockHead}
use Rattle.mlp_syntax.specs.declared.segment.FrameCode.{FrameCode}
use Rattle.mlp_layout.specs.Layout.{number_of, part, made, item}
use Rattle.mlp_layout.specs.Combined.{times, listed}
use Rattle.mlp_layout.specs.Allowed.{Allowed}
use Rattle.mlp_params.specs.declared.state.ChannelState.{ChannelState}
use Rattle.mlp_params.specs.declared.state.State.{State}
use Rattle.mlp_params.specs.InForce.{restarted_channel}
use Rattle.mlp_params.specs.States.{IsChannelState, IsState}
use Rattle.mlp_params.proofs.RestartRanges.{ranges}
use Rattle.mlp_residual.specs.Frames.{steps_within, steps_fit}
use Rattle.mlp_residual.specs.Block.{residual_in}
use Rattle.mlp_residual.proofs.FrameLaws.{listed-length}
use Rattle.mlp_predict.specs.Filters.{filters_of}
use Rattle.mlp_predict.specs.Outputs.{Frame, block_of, with_state_first}
use Rattle.mlp_channels.specs.Channels.{channel_at, step_at, is_coded, coding_at, frame_in, state_given, block_frames, codes_channel}
use Rattle.mlp_channels.specs.Playing.{frames_by}

-- ---- where it lies

pub record IsBetween (s : State) (c : ℕ) : Type 0 where
  pub from : s.restart.min ≤ c
  pub to : c ≤ s.restart.max

pub coded_between : (s : State) (c : ℕ) → is_coded s c ≡ true → IsBetween s c
coded_between s c e = let parts = and_parts (leb s.restart.min c) (leb c s.restart.max) e in record { from = leb-true _ _ parts.0; to = leb-true _ _ parts.1 }

pub coded_from : (s : State) (c : ℕ) → s.restart.min ≤ c → c ≤ s.restart.max → is_coded s c ≡ true
coded_from s c from to = and_from _ _ (le-leb s.restart.min c from) (le-leb c s.restart.max to)

pub uncoded_below : (s : State) (c : ℕ) → c < s.restart.min → is_coded s c ≡ false
uncoded_below s c h = and_left _ _ (lt-leb s.restart.min c h)

pub uncoded_above : (s : State) (c : ℕ) → s.restart.max < c → is_coded s c ≡ false
uncoded_above s c h = and_right _ _ (lt-leb c s.restart.max h)

-- ---- what is in force in it

numbers_below : (w n : ℕ) (xs : List ℕ) → (times n (number_of w)).Fits xs → All (λ x. x < 2 ^ w) xs
unfolding times item made number_of
numbers_below w n [] h = All-nil (λ x. x < 2 ^ w)
numbers_below w zero (x ∷ xs) h = absurd (let e = h in cc)
numbers_below w (suc n) (x ∷ xs) h = All-cons (λ x. x < 2 ^ w) x xs h.0 (numbers_below w n xs h.1)

steps_below : (n : ℕ) (s : State) → Allowed (listed n (number_of 4)) s.steps → All (λ x. x < 16) s.steps.items
unfolding listed part
steps_below n s a = numbers_below 4 n s.steps.items a.fits.0

step_within : (steps : List ℕ) (channels : List ChannelState) (i : ℕ) (d : ChannelState) → steps_within steps channels ≡ true → i < length steps → i < length channels → get_or steps i 0 ≤ (get_or channels i d).low
step_within [] channels i d e h k = absurd (omega arith)
step_within (step ∷ steps) [] i d e h k = absurd (omega arith)
step_within (step ∷ steps) (c ∷ channels) zero d e h k = leb-true _ _ (and_parts _ _ e).0
step_within (step ∷ steps) (c ∷ channels) (suc i) d e h k = step_within steps channels i d (and_parts _ _ e).1 (omega arith) (omega arith)

-- there is an item for it in each list, and its step takes no more low bits than it has
pub record IsInForce (s : State) (c : ℕ) : Type 0 where
  pub most : c < 8
  pub has_step : c < length s.steps.items
  pub has_channel : c < length s.channels.items
  pub step : step_at s c < 16
  pub lawful : IsChannelState (channel_at s c)
  pub fits : step_at s c ≤ (channel_at s c).low

pub in_force : (s : State) (c : ℕ) → IsState s → steps_fit s ≡ true → is_coded s c ≡ true → IsInForce s c
in_force s c h fits e =
    let at = coded_between s c e in
    let r = ranges s.format s.restart h.restart in
    let count = listed-length (number_of 4) (s.restart.max + 1) s.steps h.steps in
    let has_step : c < length s.steps.items = omega (arith, count, at.to) in
    let has_channel : c < length s.channels.items = omega (arith, h.channel_count, at.to) in
    let i = c - s.restart.min in
    let place : s.restart.min + i ≡ c = omega (arith, at.from) in
    let within = step_within (drop s.restart.min s.steps.items) (drop s.restart.min s.channels.items) i restarted_channel fits
    (omega (arith, length-drop s.restart.min s.steps.items, at.from)) (omega (arith, length-drop s.restart.min s.channels.items, at.from)) in
    let steps = get_or-drop s.restart.min s.steps.items i 0 ∙ ap (λ (j : ℕ). get_or s.steps.items j 0) place in
    let channels = get_or-drop s.restart.min s.channels.items i restarted_channel ∙ ap (λ (j : ℕ). get_or s.channels.items j restarted_channel) place in
    record {
      most = omega (arith, at.to, r.at_most_7);
      has_step = has_step;
      has_channel = has_channel;
      step = steps_below (s.restart.max + 1) s h.steps c 0 has_step;
      lawful = h.channels c restarted_channel has_channel;
      fits = subst (λ (n : ℕ). n ≤ (channel_at s c).low) steps (subst (λ (x : ChannelState). get_or (drop s.restart.min s.steps.items) i 0 ≤ x.low) channels within);
    }

-- ---- its frames

frames_of_block : (s : State) (c : ℕ) (codes : List FrameCode) → map (frame_in s c) codes ≡ block_of (filters_of (channel_at s c).fir (channel_at s c).iir) (step_at s c) (map (residual_in (coding_at s c) (c - s.restart.min)) codes)
frames_of_block s c [] = refl
frames_of_block s c (f ∷ codes) = ap (λ (fs : List Frame). frame_in s c f ∷ fs) (frames_of_block s c codes)

-- they are of one pair of filters and one step, with the state that the block gives before the first
pub coded_frames : (s : State) (h : BlockHead) (c : ℕ) (codes : List FrameCode) → is_coded s c ≡ true → block_frames (Some s) h c codes ≡ frames_by (channel_at s c) (coding_at s c) h.params (c - s.restart.min) codes
coded_frames s h c codes e = rw e (ap (with_state_first (state_given h.params (c - s.restart.min))) (frames_of_block s c codes))

pub uncoded_frames : (force : Option State) (h : BlockHead) (c : ℕ) (codes : List FrameCode) → codes_channel force c ≡ false → block_frames force h c codes ≡ []
uncoded_frames None h c codes e = refl
uncoded_frames (Some s) h c codes e = rw e refl

length-with_state_first : (state : List ℤ) (fs : List Frame) → length (with_state_first state fs) ≡ length fs
length-with_state_first state [] = refl
length-with_state_first state (f ∷ fs) = refl

pub length-block_frames : (force : Option State) (h : BlockHead) (c : ℕ) (codes : List FrameCode) → codes_channel force c ≡ true → length (block_frames force h c codes) ≡ length codes
length-block_frames None h c codes e = absurd cc
length-block_frames (Some s) h c codes e = rw e (length-with_state_first _ (map (frame_in s c) codes) ∙ length-map codes (frame_in s c))
