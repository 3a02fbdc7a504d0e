-- The channels that a substream codes: the outputs that a segment gives of each, and what it leaves to later segments.
use Rattle.std.specs.Prelude.{◌≡◌, ℕ, ◌-◌, nat_le, ◌&&◌, Bool, true, false, List, [], ◌∷◌, ◌++◌, take, drop, map, replicate, slice_index_or, Option, Some, None, if◌then◌else◌, ℤ, pos}
use Rattle.std.specs.List.{range_with_len}
use Rattle.mlp_syntax.specs.declared.params.FilterState.{FilterState}
use Rattle.mlp_syntax.specs.declared.params.Filter.{Filter}
use Rattle.mlp_syntax.specs.declared.params.ChannelParams.{ChannelParams}
use Rattle.mlp_syntax.specs.declared.params.Params.{Params}
use Rattle.mlp_syntax.specs.declared.segment.BlockHead.{BlockHead}
use Rattle.mlp_syntax.specs.declared.segment.FrameCode.{FrameCode}
use Rattle.mlp_syntax.specs.declared.segment.Segment.{Segment}
use Rattle.mlp_params.specs.declared.state.ChannelState.{ChannelState}
use Rattle.mlp_params.specs.declared.state.State.{State}
use Rattle.mlp_params.specs.InForce.{restarted_channel}
use Rattle.mlp_residual.specs.Block.{residual_in}
use Rattle.mlp_residual.specs.declared.block.ResidualCoding.{ResidualCoding}
use Rattle.mlp_predict.specs.Prediction.{Past, zeros}
use Rattle.mlp_predict.specs.Filters.{filters_of, differences_of}
use Rattle.mlp_predict.specs.Outputs.{Frame, outputs_from, past_from, with_state_first}
use Rattle.mlp_substream.specs.declared.known.Place.{Place}
use Rattle.mlp_substream.specs.Blocks.{after_head, force_after}

-- ---- a channel by what is in force

abbrev pub channel_at : State → ℕ → ChannelState
channel_at s c = slice_index_or s.channels.items c restarted_channel

abbrev pub step_at : State → ℕ → ℕ
step_at s c = slice_index_or s.steps.items c 0

-- a substream codes the channels from the least to the greatest of its restart
abbrev pub is_coded : State → ℕ → Bool
is_coded s c = nat_le s.restart.min c && nat_le c s.restart.max

-- the low bits that a code spells are those above the step, in which every output has zeros
abbrev pub coding_at : State → ℕ → ResidualCoding
coding_at s c = record {
  book = (channel_at s c).book;
  low = (channel_at s c).low - step_at s c;
  offset = (channel_at s c).offset;
  step = step_at s c;
}

-- a frame of channel c, by what is in force in its block
abbrev pub frame_in : State → ℕ → FrameCode → Frame
frame_in s c f = record {
  filters = filters_of (channel_at s c).fir (channel_at s c).iir;
  step = step_at s c;
  state = [];
  residual = residual_in (coding_at s c) (c - s.restart.min) f;
}

-- ---- the state that a block gives a filter

abbrev pub of_state : Option FilterState → List ℤ
of_state None = []
of_state (Some s) = differences_of s

abbrev pub state_of_filter : Option (Filter 4) → List ℤ
state_of_filter None = []
state_of_filter (Some f) = of_state f.state

abbrev pub state_of_channel : Option ChannelParams → List ℤ
state_of_channel None = []
state_of_channel (Some c) = state_of_filter c.iir

abbrev pub state_given : Option Params → ℕ → List ℤ
state_given None i = []
state_given (Some p) i = state_of_channel (slice_index_or p.channels.items i None)

-- ---- the frames of a channel

-- .. in a block, whose state acts right before the first of them; none where the substream doesn't code the channel
abbrev pub block_frames : Option State → BlockHead → ℕ → List FrameCode → List Frame
block_frames None h c codes = []
block_frames (Some s) h c codes =
    if is_coded s c then with_state_first (state_given h.params (c - s.restart.min)) (map (frame_in s c) codes) else []

-- .. in blocks one after the other
unfoldable pub channel_frames : Place → Option State → ℕ → List BlockHead → List FrameCode → List Frame
channel_frames place force c [] codes = []
channel_frames place force c (h ∷ hs) codes =
    block_frames (after_head place force h) h c (take h.frames codes)
    ++ channel_frames place (after_head place force h) c hs (drop h.frames codes)

-- ---- what earlier units leave of a substream, and what a segment makes of it

-- what is in force, and of each of eight channels the latest 8 outputs and 4 differences
pub record Coded : Type 0 where
  pub force : Option State
  pub pasts : List Past

-- before the first unit
abbrev pub nothing_coded : Coded
nothing_coded = record { force = None; pasts = replicate 8 (zeros 8 4) }

-- the past of channel c before a segment; a restart, with which a unit that has a major sync begins, forgets it
abbrev pub past_before : Place → Coded → ℕ → Past
past_before place x c = if place.major then zeros 8 4 else slice_index_or x.pasts c (zeros 8 4)

abbrev pub frames_in : Place → Coded → Segment → ℕ → List Frame
frames_in place x s c = channel_frames place x.force c s.blocks.items s.codes.items

-- the outputs of channel c
unfoldable pub outputs_in : Place → Coded → Segment → ℕ → List ℤ
outputs_in place x s c = outputs_from 8 4 (past_before place x c) (frames_in place x s c)

unfoldable pub coded_after : Place → Coded → Segment → Coded
coded_after place x s = record {
  force = force_after place x.force s.blocks.items;
  pasts = map (λ c. past_from 8 4 (past_before place x c) (frames_in place x s c)) (range_with_len 0 8);
}

-- ---- frames side by side

-- channel c of frames that stand side by side
abbrev pub column : ℕ → List (List ℤ) → List ℤ
column c frames = map (λ frame. slice_index_or frame c (pos 0)) frames

-- is channel c coded by what is in force?
abbrev pub codes_channel : Option State → ℕ → Bool
codes_channel None c = false
codes_channel (Some s) c = is_coded s c

-- frames after a segment has been played: the channels that it codes are new in the first n, the others stay
pub record HasPlayed (place : Place) (x : Coded) (s : Segment) (n : ℕ) (old new : List (List ℤ)) : Type 0 where
  pub coded : (c : ℕ) → codes_channel (force_after place x.force s.blocks.items) c ≡ true
      → take n (column c new) ≡ outputs_in place x s c
  pub others : (c : ℕ) → codes_channel (force_after place x.force s.blocks.items) c ≡ false
      → column c new ≡ column c old
