-- The states that a block gives to filters.
use Rattle.std.specs.Prelude.{◌+◌, ◌-◌, ◌<◌, ◌≤◌, ℕ, length, slice_index_or, Option, None, IfSome}
use Rattle.arrayvec.specs.ArrayVec.{array_vec_len}
use Rattle.mlp_syntax.specs.declared.params.FilterState.{FilterState}
use Rattle.mlp_syntax.specs.declared.params.Filter.{Filter}
use Rattle.mlp_syntax.specs.declared.params.Params.{Params}
use Rattle.mlp_params.specs.declared.state.State.{State}
use Rattle.mlp_predict.specs.Filters.{IsState}

-- a state has no more values than there are differences, and each difference has 32 signed bits
pub record FitsPast (s : FilterState) : Type 0 where
  pub few : length s.values.items ≤ 4
  pub state : IsState s

-- .. if there is one
abbrev pub StateFits : Option FilterState → Type 0
StateFits state = IfSome state FitsPast

abbrev pub FilterFits : Option (Filter 4) → Type 0
FilterFits filter = IfSome filter (λ f. StateFits f.state)

-- parameters have an item for the channel, counted from the least one, and its state fits
pub record GivesChannel (i : ℕ) (p : Params) : Type 0 where
  pub there : i < array_vec_len p.channels
  pub state : IfSome (slice_index_or p.channels.items i None) (λ c. FilterFits c.iir)

-- .. for each channel that the substream codes
abbrev pub GivesChannels : State → Option Params → Type 0
GivesChannels s given = (i : ℕ) → i < s.restart.max + 1 - s.restart.min → IfSome given (GivesChannel i)
