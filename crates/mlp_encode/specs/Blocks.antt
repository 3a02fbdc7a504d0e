-- What is sent of a substream in a unit: its blocks, as a segment.
use Rattle.std.specs.Prelude.{ℕ, ◌+◌, ◌==◌, nat_lt, ◌&&◌, ◌||◌, not, Bool, true, List, [], ◌∷◌, ◌++◌, length, map, take, drop, slice_index_or, Option, Some, None, is_some, if◌then◌else◌}
use Rattle.std.specs.List.{flat_map, list_any, range_with_len}
use Rattle.arrayvec.specs.ArrayVec.{ArrayVec}
use Rattle.mlp_syntax.specs.declared.params.MatrixRow.{MatrixRow}
use Rattle.mlp_syntax.specs.declared.params.Params.{Params}
use Rattle.mlp_syntax.specs.declared.restart.Restart.{Restart}
use Rattle.mlp_syntax.specs.declared.segment.BlockHead.{BlockHead}
use Rattle.mlp_syntax.specs.declared.segment.FrameCode.{FrameCode}
use Rattle.mlp_syntax.specs.declared.segment.Segment.{Segment}
use Rattle.mlp_params.specs.declared.state.State.{State}
use Rattle.mlp_params.specs.InForce.{in_force}
use Rattle.mlp_predict.specs.Prediction.{Past, zeros}
use Rattle.mlp_channels.specs.Channels.{channel_at}
use Rattle.mlp_channels.specs.Playing.{past_of_channel}
use Rattle.mlp_substream.specs.Blocks.{given}
use Rattle.mlp_fifo.specs.Pace.{unit_of}
use Rattle.mlp_fold.specs.declared.profile.Profile.{Profile}
use Rattle.mlp_fold.specs.declared.coding.CodedFrame.{CodedFrame}
use Rattle.mlp_fold.specs.Rows.{rows_of, steps_of}
use Rattle.mlp_fold.specs.Substreams.{first_channel, last_channel}
use Rattle.mlp_encode.specs.Numbers.{coded_channels, first_frames, low_zeros}
use Rattle.mlp_encode.specs.Coding.{Sent, nothing, column, channel_sent}

-- what is in force before a block, and of each of eight channels the past
pub record Force : Type 0 where
  pub state : State
  pub pasts : List Past

-- a block, and a segment
pub record SentBlock : Type 0 where
  pub head : BlockHead
  pub codes : List FrameCode
  -- what is in force behind it
  pub behind : Force

pub record SentSegment : Type 0 where
  pub segment : Segment
  -- what is in force behind it
  pub behind : Force

-- ---- the parameters of a block

abbrev pub size_with : State → ℕ → Option ℕ
size_with s n = if s.block_size == n then None else Some n

-- do they give anything?
abbrev pub gives : Params → Bool
gives p = is_some p.block_size || is_some p.matrices || is_some p.steps || list_any is_some p.channels.items

-- parameters are written with a restart, and where they give anything
abbrev pub params_with : Bool → Params → Option Params
params_with restarts p = if restarts || gives p then Some p else None

-- ---- its frames

-- the bypassed bits are sent where a row in force takes them
abbrev pub bypass_in : List MatrixRow → CodedFrame → ℕ
bypass_in rows frame = if list_any (λ row. row.bypass) rows then frame.bypass else 0

abbrev pub frame_code : List MatrixRow → List Sent → List CodedFrame → ℕ → FrameCode
frame_code rows channels frames i = record {
  bypass = bypass_in rows (slice_index_or frames i (record { values = []; bypass = 0 }));
  codes = record { items = map (λ x. slice_index_or x.codes i nothing) channels };
}

abbrev pub codes_in : List MatrixRow → List Sent → List CodedFrame → List FrameCode
codes_in rows channels frames = map (frame_code rows channels frames) (range_with_len 0 (length frames))

-- what is in force behind parameters
abbrev pub behind_params : Option Params → State → State
behind_params p s = given p s

-- ---- the segment of blocks

abbrev pub segment_of : List SentBlock → Option ℕ → Segment
segment_of blocks terminator = record {
  blocks = record { items = map (λ b. b.head) blocks };
  codes = record { items = flat_map (λ b. b.codes) blocks };
  padding = 0;
  terminator = terminator;
  checked = true;
}

-- no block yet
abbrev pub empty : Option ℕ → Segment
empty terminator = segment_of [] terminator

-- behind those that a segment has
abbrev pub with_block : SentBlock → Segment → Segment
with_block b s = record s {
  blocks = record { items = s.blocks.items ++ b.head ∷ [] };
  codes = record { items = s.codes.items ++ b.codes };
}

-- of one block
abbrev pub single : SentBlock → Option ℕ → SentSegment
single block terminator = record { segment = segment_of (block ∷ []) terminator; behind = block.behind }

-- of a block with a restart, and of one behind it
abbrev pub double : SentBlock → SentBlock → Option ℕ → SentSegment
double first second terminator =
    record { segment = segment_of (first ∷ second ∷ []) terminator; behind = second.behind }

-- ---- what is sent of substream j

module _ (j : ℕ) where
  -- ---- the channels of a block, by the steps in force in it: those of the mix

  abbrev pub channel_in : Force → List ℕ → Bool → List CodedFrame → ℕ → Sent
  channel_in before steps filters frames c =
      channel_sent (channel_at before.state c) (past_of_channel before.pasts c)
      (slice_index_or steps c 0) filters (column c frames)

  abbrev pub channels_in : Force → List ℕ → Bool → List CodedFrame → List Sent
  channels_in before steps filters frames = map (channel_in before steps filters frames) (coded_channels j)

  -- ---- its parameters

  -- matrices and steps come with a restart alone, where there are rows and where a step isn't 0
  abbrev pub rows_with : Profile → Bool → Option (ArrayVec MatrixRow)
  rows_with p restarts =
      if restarts && not (length (rows_of p.mix j p.channels) == 0)
      then Some (record { items = rows_of p.mix j p.channels }) else None

  abbrev pub steps_with : Profile → Bool → Option (ArrayVec ℕ)
  steps_with p restarts =
      if restarts && list_any (nat_lt 0) (steps_of p.mix (low_zeros p.depth) j)
      then Some (record { items = steps_of p.mix (low_zeros p.depth) j }) else None

  abbrev pub params_of : Profile → Bool → State → ℕ → List Sent → Params
  params_of p restarts s n channels = record {
    presence = None;
    block_size = size_with s n;
    matrices = rows_with p restarts;
    shifts = None;
    steps = steps_with p restarts;
    channels = record { items = map (λ x. x.given) channels };
  }

  -- ---- the block

  abbrev pub pasts_with : List Past → List Sent → List Past
  pasts_with pasts channels =
      take (first_channel j) pasts ++ map (λ x. x.past) channels ++ drop (last_channel j + 1) pasts

  abbrev pub block_by : Option Restart → Force → List Sent → Option Params → List CodedFrame → SentBlock
  block_by restart before channels params frames = record {
    head = record { restart = restart; params = params; frames = length frames };
    codes = codes_in (behind_params params before.state).rows.items channels frames;
    behind = record { state = behind_params params before.state; pasts = pasts_with before.pasts channels };
  }

  -- .. of these frames; behind a restart no filters but those in force are looked at
  abbrev pub sent_in : Profile → Bool → Force → List CodedFrame → List Sent
  sent_in p restarts before frames = channels_in before (steps_of p.mix (low_zeros p.depth) j) (not restarts) frames

  abbrev pub given_in : Profile → Bool → Force → List CodedFrame → Option Params
  given_in p restarts before frames =
      params_with restarts (params_of p restarts before.state (length frames) (sent_in p restarts before frames))

  unfoldable pub block_sent : Profile → Option Restart → Force → List CodedFrame → SentBlock
  block_sent p restart before frames =
      block_by restart before (sent_in p (is_some restart) before frames)
      (given_in p (is_some restart) before frames) frames

  -- what is in force behind a restart: its channels have a past of zeros
  abbrev pub restarted : Profile → Restart → List Past → Force
  restarted p restart pasts = record {
    state = in_force p.kind (unit_of p.rate) restart [];
    pasts = take (first_channel j) pasts ++ map (λ c. zeros 8 4) (coded_channels j) ++ drop (last_channel j + 1) pasts;
  }

  -- with a restart: its first block has the first 8 frames
  unfoldable pub restart_sent : Profile → Restart → List Past → List CodedFrame → Option ℕ → SentSegment
  restart_sent p restart pasts frames terminator =
      let first = block_sent p (Some restart) (restarted p restart pasts) (take first_frames frames) in
      double first (block_sent p None first.behind (drop first_frames frames)) terminator

  unfoldable pub later_sent : Profile → Force → List CodedFrame → Option ℕ → SentSegment
  later_sent p before frames terminator = single (block_sent p None before frames) terminator

  -- of a unit with a major sync, or behind what is in force; without a restart there is nothing to send against
  abbrev pub segment_sent : Profile → Option Restart → Option State → List Past → List CodedFrame
      → Option ℕ → Option SentSegment
  segment_sent p (Some restart) force pasts frames terminator = Some (restart_sent p restart pasts frames terminator)
  segment_sent p None None pasts frames terminator = None
  segment_sent p None (Some s) pasts frames terminator =
      Some (later_sent p (record { state = s; pasts = pasts }) frames terminator)
