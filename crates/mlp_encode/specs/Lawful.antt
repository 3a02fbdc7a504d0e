-- What holds of what the units sent so far leave.
use Rattle.std.specs.Prelude.{◌≡◌, ◌≤◌, ◌<◌, ℕ, zero, suc, ◌+◌, ◌-◌, ◌*◌, ◌/◌, ◌%◌, Bool, true, false, not, List, [], ◌∷◌, All, length, replicate, slice_index_or, Option, None, Some, IfSome, IsSome, is_some, Ok}
use Rattle.mlp_arith.specs.Words.{clear}
use Rattle.mlp_arith.specs.Ranges.{Is26}
use Rattle.mlp_params.specs.Filters.{order_of}
use Rattle.mlp_params.specs.States.{IsChannelState}
use Rattle.mlp_channels.specs.Channels.{channel_at}
use Rattle.mlp_fold.specs.declared.coding.CodedFrame.{CodedFrame}
use Rattle.mlp_encode.specs.Coding.{column}
use Rattle.mlp_syntax.specs.declared.restart.Restart.{Restart}
use Rattle.mlp_syntax.specs.declared.segment.Segment.{Segment}
use Rattle.mlp_layout.specs.Allowed.{Allowed}
use Rattle.mlp_params.specs.RestartHeader.{restart}
use Rattle.mlp_predict.specs.Prediction.{Past}
use Rattle.mlp_params.specs.declared.state.State.{State}
use Rattle.mlp_substream.specs.declared.known.Place.{Place}
use Rattle.mlp_substream.specs.Segment.{terminator}
use Rattle.mlp_substream.specs.Blocks.{FitsPlace}
use Rattle.mlp_fifo.specs.Pace.{unit_of}
use Rattle.mlp_fold.specs.declared.profile.Mix.{Mix}
use Rattle.mlp_fold.specs.declared.profile.Mix.TheVariants.{Split, Fold, Bypass, Side}
use Rattle.mlp_fold.specs.declared.profile.Profile.{Profile}
use Rattle.mlp_fold.specs.Profile.{checked, AreMixed}
use Rattle.mlp_fold.specs.Mix.{channels_of}
use Rattle.mlp_fold.specs.Rows.{rows_of, steps_of}
use Rattle.mlp_fold.specs.Substreams.{substreams_of, first_channel, last_channel}
use Rattle.mlp_encode.specs.Numbers.{has_sync, low_zeros, noise_kind}
use Rattle.mlp_encode.specs.Blocks.{SentSegment}
use Rattle.mlp_encode.specs.Left.{Going}

-- channels of substream j that can be sent by what is in force, by steps: without `filters` those in force are absent
pub record IsCodable (j : ℕ) (s : State) (steps : List ℕ) (filters : Bool) (frames : List CodedFrame) : Type 0 where
  pub which : j ≤ 2
  pub few : length frames ≤ 160
  pub states : (c : ℕ) → c ≤ last_channel j → IsChannelState (channel_at s c)
  pub count : last_channel j < length s.channels.items
  pub absent : filters ≡ false → (c : ℕ) → c ≤ last_channel j
      → (order_of (channel_at s c).fir ≡ 0) × (order_of (channel_at s c).iir ≡ 0)
  pub steps_count : last_channel j < length steps
  pub steps_small : (c : ℕ) → c ≤ last_channel j → slice_index_or steps c 0 ≤ 8
  pub samples : (c : ℕ) → All Is26 (column c frames)
  pub bits : All (λ f. f.bypass < 16) frames
  pub whole : (c : ℕ) → c ≤ last_channel j → All (λ x. clear (slice_index_or steps c 0) x ≡ x) (column c frames)

-- what can be in force in substream j behind its restart, and behind the parameters that come with that
pub record IsBegun (p : Profile) (j : ℕ) (s : State) : Type 0 where
  pub fits : FitsPlace p.kind (unit_of p.rate) s
  pub min : s.restart.min ≡ first_channel j
  pub max : s.restart.max ≡ last_channel j
  pub max_matrix : s.restart.max_matrix ≡ last_channel j
  pub kind : s.restart.kind ≡ noise_kind j
  pub presence : s.presence ≡ 0xFF

pub record IsInForce (p : Profile) (j : ℕ) (s : State) : Type 0 where
  pub begun : IsBegun p j s
  pub rows : s.rows.items ≡ rows_of p.mix j p.channels
  pub steps : s.steps.items ≡ steps_of p.mix (low_zeros p.depth) j

-- a block of these frames can be sent of substream j, with a restart that is in force or against what is in force
pub record IsSendable (j : ℕ) (p : Profile) (restarts : Bool) (s : State) (frames : List CodedFrame) : Type 0 where
  pub begun : IsBegun p j s
  pub shape : AreMixed p.mix p.depth p.channels
  pub top : channels_of j ≤ p.channels
  pub codable : IsCodable j s (steps_of p.mix (low_zeros p.depth) j) (not restarts) frames
  pub least : 8 ≤ length frames
  pub most : length frames ≤ unit_of p.rate
  pub rows : restarts ≡ false → s.rows.items ≡ rows_of p.mix j p.channels
  pub no_rows : restarts ≡ true → s.rows.items ≡ []
  pub steps : restarts ≡ false → s.steps.items ≡ steps_of p.mix (low_zeros p.depth) j
  pub no_steps : restarts ≡ true → s.steps.items ≡ replicate (last_channel j + 1) 0

-- the coded frames of a unit
pub record AreCodedBy (p : Profile) (frames : List CodedFrame) : Type 0 where
  pub count : length frames ≡ unit_of p.rate
  pub samples : (c : ℕ) → All Is26 (column c frames)
  pub bits : All (λ f. f.bypass < 16) frames
  pub whole : (j c : ℕ) → channels_of j ≤ p.channels → c ≤ last_channel j
      → All (λ x. clear (slice_index_or (steps_of p.mix (low_zeros p.depth) j) c 0) x ≡ x) (column c frames)

-- a restart header of substream j
pub record IsRestartOf (p : Profile) (j : ℕ) (r : Restart) : Type 0 where
  pub allowed : Allowed (restart p.kind) r
  pub min : r.min ≡ first_channel j
  pub max : r.max ≡ last_channel j
  pub max_matrix : r.max_matrix ≡ last_channel j
  pub kind : r.kind ≡ noise_kind j

-- a segment of these frames can be sent of substream j, with a restart or against what is in force
pub record SendsSegment (p : Profile) (j : ℕ) (o : Option Restart) (state : Option State)
    (coded : List CodedFrame) : Type 0 where
  pub which : j ≤ 2
  pub shape : AreMixed p.mix p.depth p.channels
  pub top : channels_of j ≤ p.channels
  pub frames : AreCodedBy p coded
  pub restarts : IfSome o (IsRestartOf p j)
  pub force : IfSome state (IsInForce p j)
  pub there : is_some o ≡ false → IsSome state

-- a second word of a terminator, if there is one
pub record IsEnd (p : Profile) (t : Option ℕ) : Type 0 where
  pub fits : IfSome t (λ word. (terminator p.kind).Fits word)
  pub meets : IfSome t (λ word. (terminator p.kind).Meets word)

-- the place of a segment in a unit
abbrev pub place_in : Profile → Bool → Place
place_in p sync = record { format = p.kind; unit_frames = unit_of p.rate; major = sync }

-- the bits of the rows of substream j, with their presence and their number
abbrev pub rows_size : Mix → ℕ → ℕ
rows_size Split j = 1
rows_size Fold zero = 63
rows_size Fold (suc zero) = 201
rows_size Fold (suc (suc j)) = 249
rows_size Bypass zero = 1
rows_size Bypass (suc j) = 81
rows_size Side j = 22

-- .. and of its steps, with their presence
abbrev pub steps_size : Mix → ℕ → ℕ
steps_size Split j = 1 + 4 * (last_channel j + 1)
steps_size Fold j = 1 + 4 * (last_channel j + 1)
steps_size Bypass zero = 1
steps_size Bypass (suc j) = 1 + 4 * (last_channel (suc j) + 1)
steps_size Side j = 1 + 4 * (last_channel j + 1)

-- the bypassed bits of a frame
abbrev pub bypass_size : Mix → ℕ → ℕ
bypass_size Split j = 0
bypass_size Fold j = 0
bypass_size Bypass zero = 0
bypass_size Bypass (suc j) = 4
bypass_size Side j = 0

-- a segment has no more bits: the heads of two blocks, a restart with rows and steps, the bypassed bits, of each
-- channel the parameters of two blocks and the codes, and what stands behind the blocks
abbrev pub segment_size : Mix → ℕ → ℕ → ℕ
segment_size mix j frames =
    216 + 6 * (last_channel j + 1) + rows_size mix j + steps_size mix j + bypass_size mix j * frames
    + (last_channel j - first_channel j + 1) * (68 + 26 * frames)

-- a segment of substream j has no more bytes
abbrev pub segment_most : Profile → ℕ → ℕ
segment_most p j = segment_size p.mix j (unit_of p.rate) / 8

-- the segments of the first substreams, and of all
abbrev pub segments_to : Profile → ℕ → ℕ
segments_to p zero = 0
segments_to p (suc n) = segments_to p n + segment_most p n

abbrev pub segments_most : Profile → ℕ
segments_most p = segments_to p (substreams_of p.channels)

-- segments of whole words
abbrev pub AreWords : List (List ℕ) → Type 0
AreWords [] = Unit {0}
AreWords (bytes ∷ more) = (length bytes % 2 ≡ 0) × AreWords more

-- it was made, and is in force
pub record IsSentSegment (s : SentSegment) (segment : Segment) (force : Option State) (pasts : List Past) : Type 0 where
  pub segment_is : segment ≡ s.segment
  pub force_is : force ≡ Some s.behind.state
  pub pasts_are : pasts ≡ s.behind.pasts

-- .. in each of these substreams, if anything is; where no restart comes something is
pub record AreInForce (p : Profile) (n : ℕ) (force : List (Option State)) : Type 0 where
  pub count : length force ≡ substreams_of p.channels
  pub each : (j : ℕ) → j < length force → IfSome (slice_index_or force j None) (IsInForce p j)
  pub there : has_sync n ≡ false → (j : ℕ) → j < length force → IsSome (slice_index_or force j None)

pub record IsGoing (g : Going) : Type 0 where
  pub profile : checked g.profile ≡ Ok tt
  pub force : AreInForce g.profile g.units g.force
  pub pasts : length g.pasts ≡ 8
  pub checks : length g.checks ≡ substreams_of g.profile.channels
  pub kind : g.fifo.kind ≡ g.profile.kind
  pub rate : g.fifo.rate ≡ g.profile.rate
  pub count : g.fifo.count ≡ g.units
