-- Which states can be in force: each item is one that a block may give.
use Rattle.std.specs.Prelude.{◌≡◌, ◌+◌, ◌<◌, ◌≤◌, IsTrue, false, All}
use Rattle.arrayvec.specs.ArrayVec.{array_vec_len}
use Rattle.mlp_params.specs.declared.state.ChannelState.{ChannelState}
use Rattle.mlp_params.specs.declared.state.State.{State}
use Rattle.mlp_layout.specs.Layout.{number_of}
use Rattle.mlp_layout.specs.Combined.{signed_of, listed}
use Rattle.mlp_layout.specs.Allowed.{Allowed}
use Rattle.mlp_params.specs.RestartHeader.{restart}
use Rattle.mlp_params.specs.Filters.{order_of, filter}
use Rattle.mlp_params.specs.Matrices.{rows}
use Rattle.mlp_params.specs.Parameters.{one_precision, block_size_of, output_shift}

-- two filters without a state, an offset of 15 bits, a book, and low bits
pub record IsChannelState (c : ChannelState) : Type 0 where
  pub fir : Allowed (filter 8 false) c.fir
  pub iir : Allowed (filter 4 false) c.iir
  pub sum : order_of c.fir + order_of c.iir ≤ 8
  pub precision : IsTrue (one_precision c.fir c.iir)
  pub offset : Allowed (signed_of 15) c.offset
  pub book : c.book < 4
  pub low : c.low < 32
  pub book_low : 0 < c.book → c.low ≤ 24

pub record IsState (s : State) : Type 0 where
  pub restart : Allowed (restart s.format) s.restart
  pub unit_frames : s.unit_frames ≤ 160
  pub presence : Allowed (number_of 8) s.presence
  pub block_size : Allowed (block_size_of s.unit_frames) s.block_size
  pub rows : Allowed (rows s.format s.restart) s.rows
  pub shifts : Allowed (listed (s.restart.max_matrix + 1) output_shift) s.shifts
  pub steps : Allowed (listed (s.restart.max + 1) (number_of 4)) s.steps
  pub channel_count : array_vec_len s.channels ≡ s.restart.max + 1
  pub channels : All IsChannelState s.channels.items
