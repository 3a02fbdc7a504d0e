-- The filters that can be chosen for a block of a channel, and the residuals that each leaves.
use Rattle.std.specs.Prelude.{◌≡◌, ℕ, ◌+◌, ◌-◌, ◌<◌, ◌==◌, nat_le, List, [], ◌∷◌, map, replicate, slice_get, Option, Some, None, ℤ, pos, neg_ℤ, ◌+ℤ◌, if◌then◌else◌}
use Rattle.std.specs.Option.{option_map}
use Rattle.std.specs.Int.{int_min, int_max}
use Rattle.mlp_arith.specs.Words.{floor_by}
use Rattle.mlp_syntax.specs.declared.params.Filter.{Filter}
use Rattle.mlp_params.specs.declared.state.ChannelState.{ChannelState}
use Rattle.mlp_params.specs.Filters.{order_of, absent}
use Rattle.mlp_predict.specs.Prediction.{Past, residuals_of, past_of, with_state, latest}
use Rattle.mlp_predict.specs.Filters.{filters_of}
use Rattle.mlp_levinson.specs.Computed.{computed}
use Rattle.mlp_search.specs.declared.pair.Pair.{Pair}

-- ---- the filters, by number

-- a filter of these coefficients of so many bits
abbrev pub filter_with : {n : ℕ} → ℕ → ℕ → List ℤ → Filter n
filter_with shift coeff_bits coeffs =
    record { shift = shift; coeff_bits = coeff_bits; coeff_shift = 0; coeffs = record { items = coeffs }; state = None }

-- a FIR without an IIR
abbrev pub alone : Filter 8 → Pair
alone fir = record { fir = fir; iir = absent }

-- a FIR beside the IIR that takes half of the latest difference away
abbrev pub beside_half : Filter 8 → Pair
beside_half fir = record { fir = fir; iir = filter_with 2 2 (neg_ℤ (pos 2) ∷ []) }

-- the filters that are the same for every block
abbrev pub table : List Pair
table =
    alone absent
    ∷ alone (filter_with 0 2 (pos 1 ∷ []))
    ∷ alone (filter_with 0 3 (pos 2 ∷ neg_ℤ (pos 1) ∷ []))
    ∷ alone (filter_with 0 3 (pos 3 ∷ neg_ℤ (pos 3) ∷ pos 1 ∷ []))
    ∷ alone (filter_with 0 4 (pos 4 ∷ neg_ℤ (pos 6) ∷ pos 4 ∷ neg_ℤ (pos 1) ∷ []))
    ∷ alone (filter_with 3 4 (pos 7 ∷ []))
    ∷ alone (filter_with 3 5 (pos 15 ∷ neg_ℤ (pos 7) ∷ []))
    ∷ beside_half (filter_with 2 4 (pos 4 ∷ []))
    ∷ beside_half (filter_with 2 5 (pos 8 ∷ neg_ℤ (pos 4) ∷ []))
    ∷ []

abbrev pub in_force : ChannelState → Pair
in_force force = record { fir = force.fir; iir = force.iir }

-- The filters of a number: 0 keeps those in force, 1 to 9 are those of the table, and 10 to 17 the FIR of order 1 to 8
-- that is computed from the samples, where there is one.
abbrev pub pair_of : ChannelState → ℕ → List ℤ → ℕ → Option Pair
pair_of force step samples n =
    if n == 0 then Some (in_force force)
    else if nat_le n 9 then slice_get table (n - 1)
    else if nat_le n 17 then option_map alone (computed step samples (n - 9))
    else None

-- these are the computed filters of orders 1 to 8, as far as there are any
abbrev pub AreComputed : ℕ → List ℤ → List (Filter 8) → Type 0
AreComputed step samples firs = (m : ℕ) → m < 8 → slice_get firs m ≡ computed step samples (m + 1)

-- ---- residuals

-- The past that the filters of a number see. Where they aren't those in force an IIR comes with a state of zeros, which
-- replaces the latest differences.
abbrev pub past_for : ℕ → Pair → Past → Past
past_for n pair past = with_state (replicate (if n == 0 then 0 else order_of pair.iir) (pos 0)) past

-- what the filters of a number leave of the samples
abbrev pub residuals_for : Past → ℕ → List ℤ → ℕ → Pair → List ℤ
residuals_for past step samples n pair = residuals_of (filters_of pair.fir pair.iir) (past_for n pair past) step samples

-- .. and the latest outputs and differences behind these
abbrev pub past_behind : Past → List ℤ → ℕ → Pair → Past
past_behind past samples n pair = latest 8 4 (past_of (filters_of pair.fir pair.iir) (past_for n pair past) samples)

-- ---- offsets

-- the least of a value and others
abbrev pub least_from : ℤ → List ℤ → ℤ
least_from v [] = v
least_from v (w ∷ ws) = least_from (int_min v w) ws

abbrev pub least_of : List ℤ → ℤ
least_of [] = pos 0
least_of (v ∷ vs) = least_from v vs

-- the greatest of a value and others
abbrev pub greatest_from : ℤ → List ℤ → ℤ
greatest_from v [] = v
greatest_from v (w ∷ ws) = greatest_from (int_max v w) ws

abbrev pub greatest_of : List ℤ → ℤ
greatest_of [] = pos 0
greatest_of (v ∷ vs) = greatest_from v vs

-- brought into 15 signed bits
abbrev pub limited : ℤ → ℤ
limited v = int_max (neg_ℤ (pos 16384)) (int_min (pos 16383) v)

-- half the sum of the least and the greatest value, rounded down
abbrev pub middle : List ℤ → ℤ
middle vs = limited (floor_by 1 (least_of vs +ℤ greatest_of vs))

-- .. of residuals, counted in steps of 2^step
abbrev pub middle_of : ℕ → List ℤ → ℤ
middle_of step rs = middle (map (floor_by step) rs)
