-- What a choice writes: the parameters that differ from those in force.
use Rattle.std.specs.Prelude.{ℕ, ◌+◌, ◌≤◌, ◌==◌, IsTrue, false, ◌&&◌, ◌||◌, Bool, List, replicate, Option, Some, None, ℤ, pos, if◌then◌else◌}
use Rattle.std.specs.Option.{option_and_then}
use Rattle.std.specs.Ordering.{int_eq}
use Rattle.std.specs.Cmp.Lexicographic.{pointwise}
use Rattle.mlp_syntax.specs.declared.params.Filter.{Filter}
use Rattle.mlp_syntax.specs.declared.params.ChannelParams.{ChannelParams}
use Rattle.mlp_params.specs.declared.state.ChannelState.{ChannelState}
use Rattle.mlp_layout.specs.Allowed.{Allowed}
use Rattle.mlp_params.specs.Filters.{order_of, filter}
use Rattle.mlp_params.specs.Parameters.{one_precision}
use Rattle.mlp_search.specs.declared.pair.Pair.{Pair}
use Rattle.mlp_search.specs.Candidates.{pair_of}
use Rattle.mlp_search.specs.declared.choice.Choice.{Choice}

-- filters without states that can be written and used: of at most 8 coefficients in all, with one shift
pub record IsPair (pair : Pair) : Type 0 where
  pub fir : Allowed (filter 8 false) pair.fir
  pub iir : Allowed (filter 4 false) pair.iir
  pub sum : order_of pair.fir + order_of pair.iir ≤ 8
  pub precision : IsTrue (one_precision pair.fir pair.iir)

-- are two filters without a state the same?
abbrev pub same_filter : Filter 8 → Filter 8 → Bool
same_filter a b =
    (a.shift == b.shift) && (a.coeff_bits == b.coeff_bits) && (a.coeff_shift == b.coeff_shift)
    && pointwise int_eq a.coeffs.items b.coeffs.items

-- filter 0 writes no FIR, and others write theirs where it isn't the one in force
abbrev pub fir_stays : ChannelState → ℕ → Pair → Bool
fir_stays force n pair = (n == 0) || same_filter pair.fir force.fir

abbrev pub fir_given : ChannelState → ℕ → Pair → Option (Filter 8)
fir_given force n pair = if fir_stays force n pair then None else Some pair.fir

-- a filter with a state of zeros, where it has coefficients
abbrev pub with_zeros : Filter 4 → Filter 4
with_zeros f =
    if order_of f == 0 then f
    else record f { state = Some (record { bits = 0; shift = 0; values = record { items = replicate (order_of f) (pos 0) } }) }

-- filter 0 writes no IIR, and others write theirs where it or the one in force has coefficients
abbrev pub iir_stays : ChannelState → ℕ → Pair → Bool
iir_stays force n pair = (n == 0) || ((order_of pair.iir == 0) && (order_of force.iir == 0))

abbrev pub iir_given : ChannelState → ℕ → Pair → Option (Filter 4)
iir_given force n pair = if iir_stays force n pair then None else Some (with_zeros pair.iir)

abbrev pub offset_given : ChannelState → ℤ → Option ℤ
offset_given force offset = if int_eq offset force.offset then None else Some offset

-- are offset, book and low bits those in force?
abbrev pub codes_alike : ChannelState → Choice → Bool
codes_alike force c = int_eq c.offset force.offset && (c.book == force.book) && (c.low == force.low)

-- nothing is written where no filter is and the codes stay as they are
abbrev pub all_stays : ChannelState → Pair → Choice → Bool
all_stays force pair c = fir_stays force c.filter pair && iir_stays force c.filter pair && codes_alike force c

abbrev pub given : ChannelState → Pair → Choice → Option ChannelParams
given force pair c =
    if all_stays force pair c then None
    else Some (record {
      fir = fir_given force c.filter pair;
      iir = iir_given force c.filter pair;
      offset = offset_given force c.offset;
      book = c.book;
      low = c.low;
    })

-- .. and nothing where there are no filters of the number
abbrev pub given_by : ChannelState → ℕ → List ℤ → Choice → Option ChannelParams
given_by force step samples c = option_and_then (λ pair. given force pair c) (pair_of force step samples c.filter)
