-- What playing a block does, and playing blocks one after the other.
use Rattle.std.specs.Prelude.{◌≡◌, ℕ, Bool, true, false, List, length, map, take, replicate, slice_index_or, Option, if◌then◌else◌, ℤ}
use Rattle.mlp_syntax.specs.declared.params.Params.{Params}
use Rattle.mlp_syntax.specs.declared.segment.BlockHead.{BlockHead}
use Rattle.mlp_syntax.specs.declared.segment.FrameCode.{FrameCode}
use Rattle.mlp_params.specs.declared.state.ChannelState.{ChannelState}
use Rattle.mlp_params.specs.declared.state.State.{State}
use Rattle.mlp_residual.specs.Block.{residual_in}
use Rattle.mlp_residual.specs.declared.block.ResidualCoding.{ResidualCoding}
use Rattle.mlp_predict.specs.Prediction.{Past, zeros}
use Rattle.mlp_predict.specs.Filters.{filters_of}
use Rattle.mlp_predict.specs.Outputs.{Frame, outputs_from, past_from, block_of, with_state_first}
use Rattle.mlp_substream.specs.declared.known.Place.{Place}
use Rattle.mlp_substream.specs.Blocks.{force_after}
use Rattle.mlp_channels.specs.Channels.{codes_channel, state_given, block_frames, channel_frames, column}

-- the frames of a channel in a block, by what is in force in it and by its coding;
-- the state that the block gives acts first
abbrev pub frames_by : ChannelState → ResidualCoding → Option Params → ℕ → List FrameCode → List Frame
frames_by coded coding given index codes =
    with_state_first (state_given given index)
    (block_of (filters_of coded.fir coded.iir) coding.step (map (residual_in coding index) codes))

-- the past of channel c
abbrev pub past_of_channel : List Past → ℕ → Past
past_of_channel pasts c = slice_index_or pasts c (zeros 8 4)

-- the pasts before the first block; a restart, with which a unit that has a major sync begins, forgets them
abbrev pub pasts_at_start : Bool → List Past → List Past
pasts_at_start major pasts = if major then replicate 8 (zeros 8 4) else pasts

-- after a block: each channel that is coded has its outputs, the others stay,
-- and the pasts are those that the frames leave
pub record HasPlayedBlock (force : Option State) (h : BlockHead) (codes : List FrameCode)
    (before after : List Past) (old new : List (List ℤ)) : Type 0 where
  pub coded : (c : ℕ) → codes_channel force c ≡ true
      → column c new ≡ outputs_from 8 4 (past_of_channel before c) (block_frames force h c codes)
  pub others : (c : ℕ) → codes_channel force c ≡ false → column c new ≡ column c old
  pub pasts : (c : ℕ) → past_of_channel after c
      ≡ past_from 8 4 (past_of_channel before c) (block_frames force h c codes)
  pub count : length after ≡ length before

-- after blocks, whose outputs stand in the first n frames
pub record HasPlayedBlocks (place : Place) (force : Option State) (hs : List BlockHead)
    (codes : List FrameCode) (n : ℕ) (before after : List Past) (old new : List (List ℤ)) : Type 0 where
  pub coded : (c : ℕ) → codes_channel (force_after place force hs) c ≡ true
      → take n (column c new) ≡ outputs_from 8 4 (past_of_channel before c) (channel_frames place force c hs codes)
  pub others : (c : ℕ) → codes_channel (force_after place force hs) c ≡ false → column c new ≡ column c old
  pub pasts : (c : ℕ) → past_of_channel after c
      ≡ past_from 8 4 (past_of_channel before c) (channel_frames place force c hs codes)
  pub count : length after ≡ length before
