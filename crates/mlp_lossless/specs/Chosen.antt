-- That each block of a stream is the choice that costs least.
use Rattle.std.specs.Prelude.{◌≡◌, ◌≤◌, ℕ, ◌+◌, ◌-◌, not, Bool, All, List, [], ◌∷◌, take, drop, map, slice_index_or, Option, Some, None, is_some, if◌then◌else◌, ℤ}
use Rattle.mlp_syntax.specs.declared.params.ChannelParams.{ChannelParams}
use Rattle.mlp_syntax.specs.declared.params.Params.{Params}
use Rattle.mlp_syntax.specs.declared.restart.Restart.{Restart}
use Rattle.mlp_syntax.specs.declared.segment.BlockHead.{BlockHead}
use Rattle.mlp_syntax.specs.declared.segment.Code.{Code}
use Rattle.mlp_syntax.specs.declared.segment.FrameCode.{FrameCode}
use Rattle.mlp_syntax.specs.declared.segment.Segment.{Segment}
use Rattle.mlp_bits.specs.Bits.{bits_of}
use Rattle.mlp_layout.specs.Streams.{Stream}
use Rattle.mlp_params.specs.declared.state.ChannelState.{ChannelState}
use Rattle.mlp_params.specs.declared.state.State.{State}
use Rattle.mlp_predict.specs.Prediction.{Past}
use Rattle.mlp_predict.specs.Outputs.{outputs_from, past_from}
use Rattle.mlp_residual.specs.Block.{code_in}
use Rattle.mlp_substream.specs.declared.known.Place.{Place}
use Rattle.mlp_substream.specs.Blocks.{restarted, given, after_head, force_after}
use Rattle.mlp_channels.specs.Channels.{Coded, channel_at, step_at, block_frames, past_before}
use Rattle.mlp_contents.specs.Units.{Left, Unit_of, start, whole, after, coded_at, place_of, no_segment}
use Rattle.mlp_search.specs.declared.choice.Choice.{Choice}
use Rattle.mlp_search.specs.declared.pair.Pair.{Pair}
use Rattle.mlp_search.specs.Candidates.{pair_of, residuals_for}
use Rattle.mlp_search.specs.Cost.{cost_of}
use Rattle.mlp_search.specs.Given.{given_by}
use Rattle.mlp_search.specs.Least.{IsLeast}
use Rattle.mlp_fifo.specs.Pace.{unit_of}
use Rattle.mlp_fold.specs.declared.profile.Profile.{Profile}
use Rattle.mlp_fold.specs.Rows.{rows_of, steps_of}
use Rattle.mlp_fold.specs.Substreams.{first_channel, last_channel}
use Rattle.mlp_encode.specs.Numbers.{has_sync, first_frames, low_zeros}
use Rattle.mlp_encode.specs.Sync.{sync_of, restart_of}
use Rattle.mlp_encode.specs.Coding.{code_by}
use Rattle.mlp_encode.specs.Unit.{output_timing, entry_at, joined}

-- ---- a block of a channel

-- what a block of a channel is coded against
pub record Basis : Type 0 where
  -- what is in force before its parameters, and its past
  pub force : ChannelState
  pub past : Past
  pub step : ℕ
  -- are filters other than those in force looked at?
  pub filters : Bool
  pub samples : List ℤ

-- these parameters and codes are those of the choice that costs least
pub record IsLeastFor (b : Basis) (written : Option ChannelParams) (codes : List Code) : Type 0 where
  pub choice : Choice
  pub least : IsLeast (cost_of b.force b.past b.step b.filters b.samples) choice
  pub written_is : written ≡ given_by b.force b.step b.samples choice
  pub pair : Pair
  pub pair_is : pair_of b.force b.step b.samples choice.filter ≡ Some pair
  pub codes_are :
      let residuals = residuals_for b.past b.step b.samples choice.filter pair in
      codes ≡ map (code_by choice.book (choice.low - b.step) choice.offset b.step) residuals

-- what the parameters of a block give to a channel, counted from the least one
abbrev pub given_to : Option Params → ℕ → Option ChannelParams
given_to None channel = None
given_to (Some p) channel = slice_index_or p.channels.items channel None

-- the basis of a block of channel c, by what is in force before its parameters and behind them: its samples are the
-- outputs that the block itself has, and behind a restart no other filters are looked at
abbrev pub basis_of : State → State → Past → ℕ → BlockHead → List FrameCode → Basis
basis_of s behind past c h codes = record {
  force = channel_at s c;
  past = past;
  step = step_at behind c;
  filters = not (is_some h.restart);
  samples = outputs_from 8 4 past (block_frames (Some behind) h c codes);
}

-- the block is the least choice; the state is the one behind its restart, if it has one
abbrev pub IsLeastBlock : Option State → Past → ℕ → BlockHead → List FrameCode → Type 0
IsLeastBlock None past c h codes = ⊥
IsLeastBlock (Some s) past c h codes =
    let channel = c - s.restart.min in
    IsLeastFor (basis_of s (given h.params s) past c h codes)
    (given_to h.params channel) (map (code_in channel) codes)

-- .. each of blocks one after the other, from what is in force and the past before them on
unfoldable pub AreLeastBlocks : Place → Option State → Past → ℕ →
    List BlockHead → List FrameCode → Type 0
AreLeastBlocks place force past c [] codes = Unit {0}
AreLeastBlocks place force past c (h ∷ hs) codes =
    let behind = after_head place force h in
    let past_behind = past_from 8 4 past (block_frames behind h c (take h.frames codes)) in
    IsLeastBlock (restarted place force h.restart) past c h (take h.frames codes)
    × AreLeastBlocks place behind past_behind c hs (drop h.frames codes)

abbrev pub IsLeastSegment : Place → Coded → ℕ → Segment → Type 0
IsLeastSegment place x c s =
    AreLeastBlocks place x.force (past_before place x c) c s.blocks.items s.codes.items

-- ---- a unit

-- the blocks of a unit of so many frames, each by its frames and its restart header: a restart comes with a block of 8,
-- and without one there is one block
abbrev pub block_heads : Option Restart → ℕ → List (ℕ × Option Restart)
block_heads None frames = (frames, None) ∷ []
block_heads (Some r) frames = (first_frames, Some r) ∷ (frames - first_frames, None) ∷ []

-- The segment of substream i in unit n, where this is in force before it: its blocks, its restart and the mix are those of
-- each stream, and each channel of each block is the least choice.
pub record IsChosenSegment (p : Profile) (i n : ℕ) (place : Place) (x : Coded) (s : Segment) : Type 0 where
  pub padding : s.padding ≡ 0
  -- the lossless check of its restart, if it has one
  pub check : ℕ
  pub heads :
      let restart = if has_sync n then Some (restart_of i (output_timing p n) check) else None in
      map (λ h. (h.frames, h.restart)) s.blocks.items ≡ block_heads restart (unit_of p.rate)
  -- behind it the rows and steps of the mix are in force
  pub behind : State
  pub force : force_after place x.force s.blocks.items ≡ Some behind
  pub rows : behind.rows.items ≡ rows_of p.mix i p.channels
  pub steps : behind.steps.items ≡ steps_of p.mix (low_zeros p.depth) i
  pub least : (c : ℕ) → first_channel i ≤ c → c ≤ last_channel i → IsLeastSegment place x c s

-- Unit n of a stream for presentation j, where units before it leave this: a major sync stands in every 16th unit and
-- is always the same, nothing is carried, and each segment is chosen.
pub record IsChosen (p : Profile) (j n : ℕ) (left : Left) (u : Unit_of) : Type 0 where
  pub major : u.outer.major ≡ (if has_sync n then Some (sync_of p) else None)
  pub entries : All (λ e. e ≡ entry_at (has_sync n) e.end) u.outer.entries
  pub segments :
      (i : ℕ) → i ≤ j →
      let segment = slice_index_or u.contents i no_segment in
      IsChosenSegment p i n (place_of left u.outer) (coded_at left.substreams i) segment

-- .. each unit from one on
unfoldable pub AreChosen : Profile → ℕ → ℕ → Left → List Unit_of → Type 0
AreChosen p j n left [] = Unit {0}
AreChosen p j n left (u ∷ us) = IsChosen p j n left u × AreChosen p j (n + 1) (after j left u) us

-- the bytes are a stream for presentation j, all of whose units are chosen
pub record IsChosenStream (p : Profile) (j : ℕ) (bytes : List (List ℕ)) : Type 0 where
  pub units : List Unit_of
  pub stream : Stream (whole j) (start j) j (bits_of (joined bytes)) units
  pub chosen : AreChosen p j 0 (start j) units
