-- What is chosen is the least.
use Rattle.std.proofs.Common.{◌≡◌, ℕ, ◌+◌, ◌*◌, ◌≤◌, ℤ, pos, Bool, false, List, length, Option, Some, None, arith}
use Rattle.std.specs.Prelude.{All, unwrap_or}
use Rattle.mlp_arith.specs.Words.{clear}
use Rattle.mlp_arith.specs.Ranges.{Is26}
use Rattle.mlp_params.specs.declared.state.ChannelState.{ChannelState}
use Rattle.mlp_params.specs.Filters.{order_of}
use Rattle.mlp_params.specs.States.{IsChannelState}
use Rattle.mlp_predict.specs.Prediction.{Past}
use Rattle.mlp_search.specs.declared.choice.Choice.{Choice}
use Rattle.mlp_search.specs.Cost.{cost_of}
use Rattle.mlp_search.specs.Least.{least_from, choice_of, middle_for, choices, chosen, IsLeast}
use Rattle.mlp_search.proofs.Ranks.{IsBest, filters_best, least_is, never_none}
use Rattle.mlp_search.proofs.CandidateLaws.{is_cost, cheap}

nothing_below : (force : ChannelState) (past : Past) (step : ℕ) (filters : Bool) (samples : List ℤ) → IsBest (cost_of force past step filters samples) 0 None
nothing_below force past step filters samples = λ d n costs below. absurd (omega (arith, below))

all_best : (force : ChannelState) (past : Past) (step : ℕ) (filters : Bool) (samples : List ℤ)
    → IsBest (cost_of force past step filters samples) 4608 (least_from (cost_of force past step filters samples) None (choices force past step samples))
unfolding choices
all_best force past step filters samples =
    filters_best (cost_of force past step filters samples) (middle_for force past step samples) (is_cost force past step filters samples) None (nothing_below force past step filters samples)

module _ (force : ChannelState) (past : Past) (step : ℕ) (filters : Bool) (samples : List ℤ) (s : IsChannelState force) (le : step ≤ 8) (h : All Is26 samples) (whole : All (λ x. clear step x ≡ x) samples)
    (fir : filters ≡ false → order_of force.fir ≡ 0) (iir : filters ≡ false → order_of force.iir ≡ 0) where
  -- what is found is the least
  found_least : (o : Option Choice) → IsBest (cost_of force past step filters samples) 4608 o → IsLeast (cost_of force past step filters samples) (unwrap_or o (choice_of 0 0 0 (pos 0)))
  found_least None b =
      let c = cheap force past step filters samples le h whole s fir iir in
      absurd (never_none (cost_of force past step filters samples) (middle_for force past step samples) (is_cost force past step filters samples) c.0 c.1.bits c.1.costs b)
  found_least (Some c) b = least_is (cost_of force past step filters samples) (middle_for force past step samples) (is_cost force past step filters samples) c b

  pub chosen_least : IsLeast (cost_of force past step filters samples) (chosen force past step filters samples)
  unfolding chosen
  chosen_least = found_least (least_from (cost_of force past step filters samples) None (choices force past step samples)) (all_best force past step filters samples)

  -- it costs at most so much
  pub chosen_cheap : (chosen force past step filters samples).bits ≤ 34 + 26 * length samples
  chosen_cheap =
      let c = cheap force past step filters samples le h whole s fir iir in
      let l = chosen_least.least c.0 c.1.bits c.1.costs in
      omega (arith, l, c.1.most)
