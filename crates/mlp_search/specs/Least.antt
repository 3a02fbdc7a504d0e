-- The choice that is taken: the first of those that cost least.
use Rattle.std.specs.Prelude.{◌≡◌, ℕ, ◌+◌, ◌*◌, ◌<◌, ◌≤◌, nat_lt, Bool, true, false, List, [], ◌∷◌, Option, Some, None, unwrap_or, ℤ, pos, if◌then◌else◌}
use Rattle.std.specs.List.{flat_map, range_with_len}
use Rattle.std.specs.Option.{option_map_or}
use Rattle.std.specs.Ordering.{int_eq}
use Rattle.mlp_params.specs.declared.state.ChannelState.{ChannelState}
use Rattle.mlp_predict.specs.Prediction.{Past}
use Rattle.mlp_search.specs.declared.choice.Choice.{Choice}
use Rattle.mlp_search.specs.Candidates.{pair_of, residuals_for, middle_of}
use Rattle.mlp_search.specs.Cost.{cost_of}

-- ---- the first of the least

-- does a choice that costs n come in the place of this one? Where there is none yet, or where it costs less
abbrev pub is_better : ℕ → Option Choice → Bool
is_better n None = true
is_better n (Some best) = nat_lt n best.bits

-- the best so far, with one choice more, which may have no cost
abbrev pub better : Option Choice → Choice → Option ℕ → Option Choice
better best c None = best
better best c (Some n) = if is_better n best then Some (record c { bits = n }) else best

-- the first of the least of the best so far and of choices behind it, with what it costs
abbrev pub least_from : (Choice → Option ℕ) → Option Choice → List Choice → Option Choice
least_from cost best [] = best
least_from cost best (c ∷ cs) = least_from cost (better best c (cost c)) cs

-- it costs no more than any choice of the filters in force
abbrev pub IsWithinFirst : (Choice → Option ℕ) → Option Choice → Type 0
IsWithinFirst cost best = (c : Choice) (n : ℕ) → c.filter ≡ 0 → cost c ≡ Some n → is_better n best ≡ false

-- ---- the choices, in their order

abbrev pub choice_of : ℕ → ℕ → ℕ → ℤ → Choice
choice_of filter book low offset = record { filter = filter; book = book; low = low; offset = offset; bits = 0 }

-- offset 0, and then the middle
abbrev pub with_offsets : ℕ → ℤ → ℕ → ℕ → List Choice
with_offsets filter mid book low = choice_of filter book low (pos 0) ∷ choice_of filter book low mid ∷ []

abbrev pub with_lows : ℕ → ℤ → ℕ → List Choice
with_lows filter mid book = flat_map (with_offsets filter mid book) (range_with_len 0 32)

abbrev pub with_books : ℕ → ℤ → List Choice
with_books filter mid = flat_map (with_lows filter mid) (range_with_len 0 4)

-- the middle of what the filters of a number leave
abbrev pub middle_for : ChannelState → Past → ℕ → List ℤ → ℕ → ℤ
middle_for force past step samples n =
    option_map_or (λ pair. middle_of step (residuals_for past step samples n pair)) (pair_of force step samples n) (pos 0)

-- by filter, book, low bits and offset; those that are no candidates have no cost
unfoldable pub choices : ChannelState → Past → ℕ → List ℤ → List Choice
choices force past step samples =
    flat_map (λ n. with_books n (middle_for force past step samples n)) (range_with_len 0 18)

-- the choice for a block; all are 0 where none has a cost
unfoldable pub chosen : ChannelState → Past → ℕ → Bool → List ℤ → Choice
chosen force past step filters samples =
    unwrap_or
    (least_from (cost_of force past step filters samples) None (choices force past step samples))
    (choice_of 0 0 0 (pos 0))

-- ---- the same as facts

-- the place of a choice in the order
abbrev pub rank : Choice → ℕ
rank c = ((c.filter * 4 + c.book) * 32 + c.low) * 2 + (if int_eq c.offset (pos 0) then 0 else 1)

-- it costs as many bits as it says, no other costs less, and those before it cost more
pub record IsLeast (cost : Choice → Option ℕ) (c : Choice) : Type 0 where
  pub costs : cost c ≡ Some c.bits
  pub least : (d : Choice) (n : ℕ) → cost d ≡ Some n → c.bits ≤ n
  pub first : (d : Choice) (n : ℕ) → cost d ≡ Some n → rank d < rank c → c.bits < n
