-- What writing needs to know of groups.
use Rattle.std.specs.Prelude.{ℕ, ◌<◌, true, false}
use Rattle.mlp_syntax.specs.declared.params.ChannelParams.{ChannelParams}
use Rattle.mlp_bits.specs.Bits.{bit}
use Rattle.mlp_layout.specs.Combined.{signed_of, group}
use Rattle.mlp_layout.specs.Allowed.{Allowed}
use Rattle.mlp_params.specs.Filters.{filter}

-- the parts of a channel's parameters can be written under these presence flags
pub record ChannelParts (flags : ℕ) (c : ChannelParams) : Type 0 where
  pub fir : Allowed (group (bit flags 3) (filter 8 false)) c.fir
  pub iir : Allowed (group (bit flags 2) (filter 4 true)) c.iir
  pub offset : Allowed (group (bit flags 1) (signed_of 15)) c.offset
  pub book : c.book < 4
  pub low : c.low < 32
