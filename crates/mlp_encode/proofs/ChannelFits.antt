-- What is sent of a channel fits what is in force behind its parameters.
use Rattle.std.proofs.Common.{◌≡◌, ℕ, ◌-◌, ◌<◌, ◌≤◌, ℤ, pos, Bool, false, List, map, length, get_or, Option, refl, sym, ap, ◌∙◌, subst, arith}
use Rattle.std.specs.Prelude.{All}
use Rattle.std.proofs.lemmas.List.{get_or-map}
use Rattle.mlp_syntax.specs.declared.params.ChannelParams.{ChannelParams}
use Rattle.mlp_syntax.specs.declared.segment.Code.{Code}
use Rattle.mlp_arith.specs.Words.{clear}
use Rattle.mlp_arith.specs.Ranges.{Is26}
use Rattle.mlp_params.specs.declared.state.ChannelState.{ChannelState}
use Rattle.mlp_params.specs.Applied.{channel_applied}
use Rattle.mlp_params.specs.Filters.{order_of}
use Rattle.mlp_params.specs.States.{IsChannelState}
use Rattle.mlp_predict.specs.Prediction.{Past}
use Rattle.mlp_predict.specs.Filters.{filters_of}
use Rattle.mlp_residual.specs.Frames.{code}
use Rattle.mlp_search.specs.declared.choice.Choice.{Choice}
use Rattle.mlp_search.specs.Candidates.{residuals_for, past_for, past_behind}
use Rattle.mlp_search.specs.Given.{given, given_by}
use Rattle.mlp_search.specs.Least.{chosen}
use Rattle.mlp_search.proofs.ChosenLaws.{chosen_least}
use Rattle.mlp_search.proofs.CandidateLaws.{HasCost, has_cost, ranges}
use Rattle.mlp_encode.specs.Coding.{Sent, nothing, code_by, channel_sent}
use Rattle.mlp_encode.proofs.CodingLaws.{book_behind, low_behind, given_is, channel_is}
use Rattle.mlp_encode.proofs.SentCodes.{length-residuals}
use Rattle.mlp_encode.proofs.SentFits.{each_code, code_fits}

module _ (force : ChannelState) (past : Past) (step : ℕ) (filters : Bool) (samples : List ℤ) (state : IsChannelState force) (small : step ≤ 8) (wide : All Is26 samples) (whole : All (λ x. clear step x ≡ x) samples)
    (fir : filters ≡ false → order_of force.fir ≡ 0) (iir : filters ≡ false → order_of force.iir ≡ 0) where
  abbrev pub k : Choice
  k = chosen force past step filters samples

  abbrev pub sent : Sent
  sent = channel_sent force past step filters samples

  abbrev pub behind : ChannelState
  behind = channel_applied force sent.given

  pub there : HasCost force past step filters samples k k.bits
  there = has_cost force past step filters samples k k.bits (chosen_least force past step filters samples state small wide whole fir iir).costs

  pub is : sent ≡ record { given = given_by force step samples k; codes = map (code_by k.book (k.low - step) k.offset step) (residuals_for past step samples k.filter there.pair); past = past_behind past samples k.filter there.pair }
  is = channel_is force past step filters samples k there.pair state refl there.there

  pub gives : sent.given ≡ given force there.pair k
  gives = ap (λ (x : Sent). x.given) is ∙ given_is force past step samples k there.pair state there.there

  pub book_is : behind.book ≡ k.book
  book_is = ap (λ (g : Option ChannelParams). (channel_applied force g).book) gives ∙ book_behind force there.pair k

  pub low_is : behind.low ≡ k.low
  low_is = ap (λ (g : Option ChannelParams). (channel_applied force g).low) gives ∙ low_behind force there.pair k

  -- there are as many low bits as the step has
  pub low_enough : step ≤ behind.low
  low_enough = omega (arith, (ranges step filters k there.costs.range).from, low_is)

  -- each code is one of the book in force
  pub each_fits : (i : ℕ) → i < length samples → (code (record { book = behind.book; low = behind.low - step })).Fits (get_or sent.codes i nothing)
  each_fits i lt =
      let rs : List ℤ = residuals_for past step samples k.filter there.pair in
      let count : length rs ≡ length samples = length-residuals (filters_of there.pair.fir there.pair.iir) (past_for k.filter there.pair past) step samples in
      let here : get_or sent.codes i nothing ≡ code_by k.book (k.low - step) k.offset step (get_or rs i (pos 0)) =
      ap (λ (x : Sent). get_or x.codes i nothing) is ∙ get_or-map (code_by k.book (k.low - step) k.offset step) rs i (pos 0) nothing (omega (arith, count, lt)) in
      let fits = code_fits k.book (k.low - step) k.offset step (get_or rs i (pos 0)) (each_code k.book (k.low - step) k.offset step rs there.costs.codes i there.costs.taken (omega (arith, count, lt))) in
      subst (λ (x : Code). (code (record { book = behind.book; low = behind.low - step })).Fits x) (sym here)
      (subst (λ (b : ℕ). (code (record { book = b; low = behind.low - step })).Fits (code_by k.book (k.low - step) k.offset step (get_or rs i (pos 0)))) (sym book_is)
      (subst (λ (l : ℕ). (code (record { book = k.book; low = l - step })).Fits (code_by k.book (k.low - step) k.offset step (get_or rs i (pos 0)))) (sym low_is) fits))
