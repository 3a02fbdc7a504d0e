-- What a choice with a cost gives.
use Rattle.std.proofs.Common.{◌≡◌, ℕ, Bool, true, List, ℤ, Option, Some, refl, sym, subst, ap}
use Rattle.std.specs.Prelude.{IfSome}
use Rattle.std.specs.Option.{option_and_then}
use Rattle.mlp_layout.specs.Allowed.{Allowed}
use Rattle.mlp_layout.specs.Combined.{group}
use Rattle.mlp_syntax.specs.declared.params.ChannelParams.{ChannelParams}
use Rattle.mlp_params.specs.declared.state.ChannelState.{ChannelState}
use Rattle.mlp_params.specs.Applied.{channel_applied}
use Rattle.mlp_params.specs.Parameters.{channel}
use Rattle.mlp_params.specs.States.{IsChannelState}
use Rattle.mlp_predict.specs.Prediction.{Past}
use Rattle.mlp_predict.specs.Filters.{filters_of}
use Rattle.mlp_search.specs.declared.pair.Pair.{Pair}
use Rattle.mlp_search.specs.declared.choice.Choice.{Choice}
use Rattle.mlp_search.specs.Candidates.{pair_of, residuals_for}
use Rattle.mlp_search.specs.Given.{IsPair, given, given_by}
use Rattle.mlp_search.specs.Cost.{cost_of}
use Rattle.mlp_search.proofs.CostLaws.{offset_fits}
use Rattle.mlp_search.proofs.PairLaws.{pair_is}
use Rattle.mlp_search.proofs.CandidateLaws.{has_cost, ranges}
use Rattle.mlp_search.proofs.BehindLaws.{given_allowed, filters_behind}

pub pair_there : (force : ChannelState) (step : ℕ) (samples : List ℤ) (n : ℕ) (pair : Pair) → IsChannelState force → pair_of force step samples n ≡ Some pair → IsPair pair
pair_there force step samples n pair s e = subst (λ (o : Option Pair). IfSome o IsPair) e (pair_is force step samples n s)

pub given_is_pair : (force : ChannelState) (step : ℕ) (samples : List ℤ) (c : Choice) (pair : Pair) → IsChannelState force → pair_of force step samples c.filter ≡ Some pair
    → filters_of (channel_applied force (given force pair c)).fir (channel_applied force (given force pair c)).iir ≡ filters_of pair.fir pair.iir
given_is_pair force step samples c pair s e = filters_behind force step samples c.filter pair s (pair_there force step samples c.filter pair s e) e c refl

pub candidate_allowed : (force : ChannelState) (past : Past) (step : ℕ) (filters : Bool) (samples : List ℤ) (c : Choice) (n : ℕ) → IsChannelState force → cost_of force past step filters samples c ≡ Some n
    → Allowed (group true (channel 0xFF force)) (given_by force step samples c)
candidate_allowed force past step filters samples c n s e =
    let h = has_cost force past step filters samples c n e in
    let r = ranges step filters c h.costs.range in
    let is = pair_there force step samples c.filter h.pair s h.there in
    let fits = offset_fits step (residuals_for past step samples c.filter h.pair) c.offset h.costs.offset in
    let a = given_allowed force step samples c.filter h.pair s is h.there c refl r.book r.low fits in
    let same : given_by force step samples c ≡ given force h.pair c = ap (λ (o : Option Pair). option_and_then (λ pair. given force pair c) o) h.there in
    subst (λ (o : Option ChannelParams). Allowed (group true (channel 0xFF force)) o) (sym same) a
