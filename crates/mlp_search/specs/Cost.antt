-- What a choice costs.
use Rattle.std.specs.Prelude.{ℕ, zero, suc, ◌+◌, ◌-◌, ◌/◌, ◌%◌, ◌^◌, ◌*◌, ◌==◌, nat_le, nat_lt, ◌&&◌, ◌||◌, Bool, true, List, [], ◌∷◌, length, Option, Some, None, ℤ, pos, negsuc, ◌+ℤ◌, ◌-ℤ◌, if◌then◌else◌}
use Rattle.std.specs.List.{list_all}
use Rattle.std.specs.Option.{option_map, option_and_then}
use Rattle.std.specs.Ordering.{int_eq}
use Rattle.mlp_arith.specs.Words.{floor_by, clear}
use Rattle.mlp_syntax.specs.declared.params.Filter.{Filter}
use Rattle.mlp_syntax.specs.declared.segment.Code.{Code}
use Rattle.mlp_params.specs.declared.state.ChannelState.{ChannelState}
use Rattle.mlp_layout.specs.Combined.{group}
use Rattle.mlp_params.specs.Filters.{order_of}
use Rattle.mlp_params.specs.Parameters.{channel}
use Rattle.mlp_predict.specs.Prediction.{Past}
use Rattle.mlp_residual.specs.Coding.{symbols_of, sign_offset, length_of}
use Rattle.mlp_levinson.specs.Computed.{has_bits}
use Rattle.mlp_search.specs.declared.choice.Choice.{Choice}
use Rattle.mlp_search.specs.declared.pair.Pair.{Pair}
use Rattle.mlp_search.specs.Candidates.{pair_of, residuals_for, middle_of}
use Rattle.mlp_search.specs.Given.{fir_given, iir_given, all_stays, given}

-- ---- codes

-- the code at a place above the least value of a book with b low bits, where the book has one
abbrev pub code_at : ℕ → ℕ → ℤ → Option Code
code_at book b (pos place) =
    if nat_lt (place / 2 ^ b) (symbols_of book) then Some (record { symbol = place / 2 ^ b; low = place % 2 ^ b }) else None
code_at book b (negsuc n) = None

-- the code of a residual, where it is a number of whole steps and the book has one
abbrev pub code_for : ℕ → ℕ → ℤ → ℕ → ℤ → Option Code
code_for book b offset step r =
    if int_eq (clear step r) r then code_at book b (floor_by step r -ℤ offset +ℤ pos (sign_offset book b)) else None

-- the sum of two numbers that are both there
abbrev pub sum_of : Option ℕ → Option ℕ → Option ℕ
sum_of a b = option_and_then (λ m. option_map (λ n. m + n) b) a

-- how many bits the codes of residuals take in all, where all have one
abbrev pub bits_for : ℕ → ℕ → ℤ → ℕ → List ℤ → Option ℕ
bits_for book b offset step [] = Some 0
bits_for book b offset step (r ∷ rs) =
    sum_of (option_map (length_of book b) (code_for book b offset step r)) (bits_for book b offset step rs)

-- ---- parameters

-- how many bits the flag and the parameters of the channel take
abbrev pub parameter_bits : ChannelState → Pair → Choice → ℕ
parameter_bits force pair c = length ((group true (channel 0xFF force)).spelling (given force pair c))

-- ---- the same as sums

-- how many bits a filter without a state takes
abbrev pub filter_bits : {n : ℕ} → Filter n → ℕ
filter_bits f = if order_of f == 0 then 4 else 17 + order_of f * f.coeff_bits

-- how many a written FIR takes behind the flag of its group
abbrev pub fir_bits : Option (Filter 8) → ℕ
fir_bits None = 0
fir_bits (Some f) = filter_bits f

-- .. and a written IIR, whose state takes 8 where it has coefficients
abbrev pub iir_bits : Option (Filter 4) → ℕ
iir_bits None = 0
iir_bits (Some f) = filter_bits f + (if order_of f == 0 then 0 else 8)

abbrev pub offset_bits : ChannelState → ℤ → ℕ
offset_bits force offset = if int_eq offset force.offset then 0 else 15

-- the flag alone, or the flag, those of three groups, book and low bits, and what the groups have
abbrev pub parameter_sum : ChannelState → Pair → Choice → ℕ
parameter_sum force pair c =
    if all_stays force pair c then 1
    else 11 + fir_bits (fir_given force c.filter pair) + iir_bits (iir_given force c.filter pair) + offset_bits force c.offset

-- ---- candidates

-- the most low bits that a book may have beside it
abbrev pub most_low : ℕ → ℕ
most_low zero = 31
most_low (suc book) = 24

-- filters other than 0 only where they are looked at; four books; low bits from the step on
abbrev pub in_range : ℕ → Bool → Choice → Bool
in_range step filters c =
    (filters || (c.filter == 0)) && nat_le c.book 3 && nat_le step c.low && nat_le c.low (most_low c.book)

-- the offset is 0 or the middle of the values
abbrev pub is_offset : ℕ → List ℤ → ℤ → Bool
is_offset step rs offset = int_eq offset (pos 0) || int_eq offset (middle_of step rs)

-- what a choice of these filters costs, over residuals that they leave: the bits of its parameters and codes
abbrev pub cost_over : ChannelState → ℕ → Bool → Pair → List ℤ → Choice → Option ℕ
cost_over force step filters pair rs c =
    if in_range step filters c && is_offset step rs c.offset && list_all (has_bits 32) rs
    then option_map (λ n. parameter_bits force pair c + n) (bits_for c.book (c.low - step) c.offset step rs)
    else None

-- what a choice costs, where it is a candidate and its residuals are words of 32 bits that all have codes
abbrev pub cost_of : ChannelState → Past → ℕ → Bool → List ℤ → Choice → Option ℕ
cost_of force past step filters samples c =
    option_and_then
    (λ pair. cost_over force step filters pair (residuals_for past step samples c.filter pair) c)
    (pair_of force step samples c.filter)
