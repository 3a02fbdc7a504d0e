-- The filters of a number on trial.
use Rattle.std.specs.Prelude.{◌≡◌, ℕ, ◌+◌, ◌*◌, ◌/◌, ◌^◌, ◌<◌, ◌≤◌, ◌&&◌, true, List, length, map, ℤ, pos}
use Rattle.mlp_arith.specs.Words.{floor_by}
use Rattle.mlp_params.specs.declared.state.ChannelState.{ChannelState}
use Rattle.mlp_residual.specs.Coding.{symbols_of}
use Rattle.mlp_search.specs.declared.pair.Pair.{Pair}
use Rattle.mlp_search.specs.declared.trial.Writing.{Writing}
use Rattle.mlp_search.specs.declared.trial.Trial.{Trial}
use Rattle.mlp_search.specs.declared.sides.Side.{Side}
use Rattle.mlp_search.specs.declared.sides.Sides.{Sides}
use Rattle.mlp_search.specs.declared.choice.Choice.{Choice}
use Rattle.mlp_search.specs.Candidates.{middle_of}
use Rattle.mlp_search.specs.Folded.{stepped, all_folded, top_of, all_symbol_bits}
use Rattle.mlp_search.specs.Survey.{IsSurvey}
use Rattle.mlp_search.specs.Given.{IsPair, fir_stays, iir_stays, fir_given, iir_given}
use Rattle.mlp_search.specs.Cost.{fir_bits, iir_bits, is_offset, parameter_sum}

-- what the filters of a number write
pub record IsWriting (force : ChannelState) (n : ℕ) (pair : Pair) (w : Writing) : Type 0 where
  pub stays : w.stays ≡ (fir_stays force n pair && iir_stays force n pair)
  pub bits : w.bits ≡ fir_bits (fir_given force n pair) + iir_bits (iir_given force n pair)

-- what it says of its filters is what they write
pub record Writes (force : ChannelState) (t : Trial) : Type 0 where
  pub pair : IsPair t.pair
  pub stays : t.stays ≡ (fir_stays force t.number t.pair && iir_stays force t.number t.pair)
  pub bits : t.bits ≡ fir_bits (fir_given force t.number t.pair) + iir_bits (iir_given force t.number t.pair)

-- .. and the survey and the middle are those of the residuals
pub record IsTrial (force : ChannelState) (step : ℕ) (rs : List ℤ) (t : Trial) : Type 0 where
  pub writes : Writes force t
  pub survey : IsSurvey (map (floor_by step) rs) t.survey
  pub middle : t.middle ≡ middle_of step rs

-- no more than the bits of parameters and codes in any of the three books, where all values have codes
abbrev pub IsFewest : List ℤ → Side → ℕ → Type 0
IsFewest vs s n =
    (book b : ℕ) → 0 < book → book ≤ 3 → top_of (all_folded s.offset vs) / 2 ^ b < symbols_of book →
    n ≤ s.base + length vs * b + all_symbol_bits book b (all_folded s.offset vs)

-- one of the two offsets: what is known of the values that are moved by it
pub record IsSide (force : ChannelState) (step : ℕ) (t : Trial) (vs : List ℤ) (s : Side) : Type 0 where
  pub offset : is_offset step (map (stepped step) vs) s.offset ≡ true
  pub top : s.top ≡ top_of (all_folded s.offset vs)
  pub under : 2 ^ s.width ≤ 2 * s.top + 1
  pub base : (c : Choice) → c.filter ≡ t.number → c.offset ≡ s.offset → s.base ≤ parameter_sum force t.pair c
  pub least : IsFewest vs s s.least

-- its numbers are small enough to be added
pub record IsSmall (s : Side) : Type 0 where
  pub base : s.base ≤ 65561
  pub width : s.width ≤ 64

-- both, the first for offset 0 and the second for the middle
pub record AreSides (force : ChannelState) (step : ℕ) (t : Trial) (vs : List ℤ) (s : Sides) : Type 0 where
  pub zero : IsSide force step t vs s.zero
  pub zero_small : IsSmall s.zero
  pub at_zero : s.zero.offset ≡ pos 0
  pub middle : IsSide force step t vs s.middle
  pub middle_small : IsSmall s.middle
  pub at_middle : s.middle.offset ≡ t.middle
