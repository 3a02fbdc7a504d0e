-- One step of what is in force.
use Rattle.std.specs.Prelude.{List, [], ◌∷◌, ◌++◌, take, drop, Option, Some, None, unwrap_or, option_map}
use Rattle.mlp_syntax.specs.declared.params.ChannelParams.{ChannelParams}
use Rattle.mlp_syntax.specs.declared.params.Params.{Params}
use Rattle.mlp_params.specs.declared.state.ChannelState.{ChannelState}
use Rattle.mlp_params.specs.declared.state.State.{State}
use Rattle.mlp_params.specs.InForce.{stateless}

abbrev pub channel_applied : ChannelState → Option ChannelParams → ChannelState
channel_applied s None = s
channel_applied s (Some c) = record {
  fir = unwrap_or (option_map stateless c.fir) s.fir;
  iir = unwrap_or (option_map stateless c.iir) s.iir;
  offset = unwrap_or c.offset s.offset;
  book = c.book;
  low = c.low;
}

abbrev pub channels_applied : List ChannelState → List (Option ChannelParams) → List ChannelState
channels_applied [] given = []
channels_applied (s ∷ later) [] = s ∷ later
channels_applied (s ∷ later) (c ∷ given) = channel_applied s c ∷ channels_applied later given

-- what is in force behind a block that gives these parameters
abbrev pub applied : State → Params → State
applied s p = record {
  format = s.format;
  unit_frames = s.unit_frames;
  restart = s.restart;
  presence = unwrap_or p.presence s.presence;
  block_size = unwrap_or p.block_size s.block_size;
  rows = unwrap_or p.matrices s.rows;
  shifts = unwrap_or p.shifts s.shifts;
  steps = unwrap_or p.steps s.steps;
  channels = record {
    items = take s.restart.min s.channels.items
        ++ channels_applied (drop s.restart.min s.channels.items) p.channels.items;
  };
}
