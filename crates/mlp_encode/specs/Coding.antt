-- What is sent of a channel in a block: the least choice against what is in force and against its past.
use Rattle.std.specs.Prelude.{ℕ, ◌-◌, Bool, List, map, Option, unwrap_or, ℤ}
use Rattle.mlp_syntax.specs.declared.params.ChannelParams.{ChannelParams}
use Rattle.mlp_syntax.specs.declared.segment.Code.{Code}
use Rattle.mlp_params.specs.declared.state.ChannelState.{ChannelState}
use Rattle.mlp_params.specs.Applied.{channel_applied}
use Rattle.mlp_predict.specs.Prediction.{Past, residuals_of, past_of, latest, with_state}
use Rattle.mlp_predict.specs.Filters.{filters_of}
use Rattle.mlp_fold.specs.declared.coding.CodedFrame.{CodedFrame}
use Rattle.mlp_fold.specs.Mix.{at}
use Rattle.mlp_channels.specs.Channels.{state_of_channel}
use Rattle.mlp_search.specs.Cost.{code_for}
use Rattle.mlp_search.specs.Least.{chosen}
use Rattle.mlp_search.specs.Given.{given_by}

-- the samples of channel c in coded frames
abbrev pub column : ℕ → List CodedFrame → List ℤ
column c frames = map (λ frame. at frame.values c) frames

-- ---- the parameters

-- those that the least choice writes; filters other than those in force are looked at where `filters` says so
abbrev pub written : ChannelState → Past → ℕ → Bool → List ℤ → Option ChannelParams
written force past step filters samples = given_by force step samples (chosen force past step filters samples)

-- ---- the codes, by what is in force behind these parameters

-- no code: where there is a choice each residual has one
abbrev pub nothing : Code
nothing = record { symbol = 0; low = 0 }

abbrev pub code_by : ℕ → ℕ → ℤ → ℕ → ℤ → Code
code_by book b offset step residual = unwrap_or (code_for book b offset step residual) nothing

abbrev pub code_of : ChannelState → ℕ → ℤ → Code
code_of force step residual = code_by force.book (force.low - step) force.offset step residual

-- the past with the state that the parameters give
abbrev pub past_with : Option ChannelParams → Past → Past
past_with given past = with_state (state_of_channel given) past

abbrev pub residuals : ChannelState → Option ChannelParams → Past → ℕ → List ℤ → List ℤ
residuals force given past step samples =
    residuals_of (filters_of force.fir force.iir) (past_with given past) step samples

abbrev pub codes_of : ChannelState → Option ChannelParams → Past → ℕ → List ℤ → List Code
codes_of force given past step samples = map (code_of force step) (residuals force given past step samples)

-- ---- what it leaves: the latest 8 outputs and 4 differences

abbrev pub past_behind : ChannelState → Option ChannelParams → Past → List ℤ → Past
past_behind force given past samples =
    latest 8 4 (past_of (filters_of force.fir force.iir) (past_with given past) samples)

-- ---- all of it

pub record Sent : Type 0 where
  pub given : Option ChannelParams
  pub codes : List Code
  pub past : Past

abbrev pub sent_by : ChannelState → Option ChannelParams → Past → ℕ → List ℤ → Sent
sent_by force given past step samples = record {
  given = given;
  codes = codes_of (channel_applied force given) given past step samples;
  past = past_behind (channel_applied force given) given past samples;
}

unfoldable pub channel_sent : ChannelState → Past → ℕ → Bool → List ℤ → Sent
channel_sent force past step filters samples =
    sent_by force (written force past step filters samples) past step samples
