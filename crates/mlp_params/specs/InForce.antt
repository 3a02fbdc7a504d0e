-- What is in force behind a list of blocks: of each item the latest value given since the restart, or the value that a
-- restart puts in force. Lists of blocks and of parameters have the latest first.
use Rattle.std.specs.Prelude.{ℕ, ◌+◌, ◌-◌, List, [], ◌∷◌, ◌++◌, map, replicate, slice_index_or, Option, Some, None, is_some, unwrap_or, option_map, option_and_then, option_to_list, pos, if◌then◌else◌}
use Rattle.std.specs.List.{range_with_len}
use Rattle.mlp_syntax.specs.declared.major.Kind.{Kind}
use Rattle.mlp_syntax.specs.declared.restart.Restart.{Restart}
use Rattle.mlp_syntax.specs.declared.params.Filter.{Filter}
use Rattle.mlp_syntax.specs.declared.params.ChannelParams.{ChannelParams}
use Rattle.mlp_syntax.specs.declared.params.Params.{Params}
use Rattle.mlp_syntax.specs.declared.segment.BlockHead.{BlockHead}
use Rattle.mlp_params.specs.declared.state.ChannelState.{ChannelState}
use Rattle.mlp_params.specs.declared.state.State.{State}
use Rattle.mlp_params.specs.Filters.{absent}

-- the latest value given, or else this one
abbrev pub latest : {P A : Type 0} → (P → Option A) → List P → A → A
latest given [] start = start
latest given (p ∷ earlier) start = unwrap_or (given p) (latest given earlier start)

-- a filter without its state, which acts once and isn't in force
abbrev pub stateless : {n : ℕ} → Filter n → Filter n
stateless f = record f { state = None }

-- what a block gives to a channel, counted from the least one
abbrev pub of_channel : {A : Type 0} → ℕ → (ChannelParams → Option A) → Params → Option A
of_channel i given p = option_and_then given (slice_index_or p.channels.items i None)

abbrev pub channel_in_force : List Params → ℕ → ChannelState
channel_in_force given i = record {
  fir = latest (of_channel i (λ c. option_map stateless c.fir)) given absent;
  iir = latest (of_channel i (λ c. option_map stateless c.iir)) given absent;
  offset = latest (of_channel i (λ c. c.offset)) given (pos 0);
  book = latest (of_channel i (λ c. Some c.book)) given 0;
  low = latest (of_channel i (λ c. Some c.low)) given 24;
}

-- what a restart puts in force in a channel
abbrev pub restarted_channel : ChannelState
restarted_channel = record { fir = absent; iir = absent; offset = pos 0; book = 0; low = 24 }

-- behind a restart and the parameters given since; channels below the least stay as at the restart
abbrev pub in_force : Kind → ℕ → Restart → List Params → State
in_force format unit_frames r given = record {
  format = format;
  unit_frames = unit_frames;
  restart = r;
  presence = latest (λ p. p.presence) given 0xFF;
  block_size = latest (λ p. p.block_size) given 8;
  rows = latest (λ p. p.matrices) given (record { items = [] });
  shifts = latest (λ p. p.shifts) given (record { items = replicate (r.max_matrix + 1) 0 });
  steps = latest (λ p. p.steps) given (record { items = replicate (r.max + 1) 0 });
  channels = record {
    items = replicate r.min restarted_channel
        ++ map (channel_in_force given) (range_with_len 0 (r.max + 1 - r.min));
  };
}

-- ---- blocks

abbrev pub last_restart : List BlockHead → Option Restart
last_restart [] = None
last_restart (block ∷ earlier) = if is_some block.restart then block.restart else last_restart earlier

-- the parameters given since the last restart, with those of its own block
abbrev pub given_since : List BlockHead → List Params
given_since [] = []
given_since (block ∷ earlier) =
    option_to_list block.params ++ (if is_some block.restart then [] else given_since earlier)

-- what is in force behind these blocks, where one of them has a restart
abbrev pub behind_blocks : Kind → ℕ → List BlockHead → Option State
behind_blocks format unit_frames blocks =
    option_map (λ r. in_force format unit_frames r (given_since blocks)) (last_restart blocks)
