-- The decoding parameters of a block, against what is in force before it.
use Rattle.std.specs.Prelude.{ℕ, ◌+◌, ◌==◌, nat_le, nat_lt, ◌&&◌, ◌||◌, Bool, true, false, List, drop, Option, unwrap_or}
use Rattle.mlp_syntax.specs.declared.fault.Field.TheVariants as rule
use Rattle.mlp_syntax.specs.declared.params.Filter.{Filter}
use Rattle.mlp_syntax.specs.declared.params.ChannelParams.{ChannelParams}
use Rattle.mlp_syntax.specs.declared.params.Params.{Params}
use Rattle.mlp_params.specs.declared.state.ChannelState.{ChannelState}
use Rattle.mlp_params.specs.declared.state.State.{State}
use Rattle.mlp_bits.specs.Bits.{bit}
use Rattle.mlp_layout.specs.Layout.{Layout, number_of, ruled, tested, part, made}
use Rattle.mlp_layout.specs.Combined.{must, signed_of, group, listed, each}
use Rattle.mlp_params.specs.Filters.{order_of, filter}
use Rattle.mlp_params.specs.Matrices.{rows}

-- ---- a channel

-- where both filters have coefficients their shifts are the same
abbrev pub one_precision : Filter 8 → Filter 4 → Bool
one_precision fir iir = (order_of fir == 0) || (order_of iir == 0) || (fir.shift == iir.shift)

-- two rules on the filters that are in force behind both groups, and then the rest
unfoldable pub filters_tested : {A : Type 0} → Filter 8 → Filter 4 → Layout A → Layout A
filters_tested fir iir rest = tested rule.FilterSum (nat_le (order_of fir + order_of iir) 8)
    (tested rule.FilterPrecision (one_precision fir iir) rest)

unfoldable pub channel : ℕ → ChannelState → Layout ChannelParams
channel flags in_force =
    part (group (bit flags 3) (filter 8 false)) (λ c. c.fir) (λ fir.
    part (group (bit flags 2) (filter 4 true)) (λ c. c.iir) (λ iir.
    filters_tested (unwrap_or fir in_force.fir) (unwrap_or iir in_force.iir)
    (part (group (bit flags 1) (signed_of 15)) (λ c. c.offset) (λ offset.
    part (number_of 2) (λ c. c.book) (λ book.
    part (ruled (must rule.HuffLsbs (λ low. (book == 0) || nat_le low 24)) (number_of 5)) (λ c. c.low) (λ low.
    made (record { fir = fir; iir = iir; offset = offset; book = book; low = low })))))))

-- ---- a block

-- from 8 frames to those of an access unit
abbrev pub block_size_of : ℕ → Layout ℕ
block_size_of unit_frames = ruled (must rule.BlockSize (λ n. nat_le 8 n && nat_le n unit_frames)) (number_of 9)

-- a shift of four bits in two's complement, which isn't negative where its first bit is 0
abbrev pub output_shift : Layout ℕ
output_shift = ruled (must rule.OutputShift (λ n. nat_lt n 8)) (number_of 4)

-- what is given to each channel that the substream codes
abbrev pub given_channels : ℕ → State → Layout (List (Option ChannelParams))
given_channels flags s = each (λ c. group true (channel flags c)) (drop s.restart.min s.channels.items)

-- what follows the presence flags, which are these from here on
unfoldable pub groups : State → Option ℕ → ℕ → Layout Params
groups s presence flags =
    part (group (bit flags 7) (block_size_of s.unit_frames)) (λ p. p.block_size) (λ block_size.
    part (group (bit flags 6) (rows s.format s.restart)) (λ p. p.matrices) (λ matrices.
    part (group (bit flags 5) (listed (s.restart.max_matrix + 1) output_shift)) (λ p. p.shifts) (λ shifts.
    part (group (bit flags 4) (listed (s.restart.max + 1) (number_of 4))) (λ p. p.steps) (λ steps.
    part (given_channels flags s) (λ p. p.channels.items) (λ channels.
    made (record {
      presence = presence;
      block_size = block_size;
      matrices = matrices;
      shifts = shifts;
      steps = steps;
      channels = record { items = channels };
    }))))))

-- A group is there where its presence bit is set. The bits are those in force before the block up to the presence flags
-- themselves, which are bit 0, and those that the block gives from there on.
unfoldable pub params : State → Layout Params
params s = part (group (bit s.presence 0) (number_of 8)) (λ p. p.presence)
    (λ presence. groups s presence (unwrap_or presence s.presence))
