-- A channel is restored from what is sent of it in a block.
use Rattle.std.proofs.Common.{◌≡◌, ℕ, ◌-◌, ◌<◌, ◌≤◌, ℤ, Bool, false, List, [], ◌∷◌, map, length, Option, Some, None, refl, sym, ap, ◌∙◌, subst, arith}
use Rattle.std.specs.Prelude.{All, unwrap_or, FitsSigned}
use Rattle.std.specs.Int.{w32}
use Rattle.std.proofs.lemmas.Int.{ints, int_wrap_fits}
use Rattle.std.proofs.lemmas.List.{length-map}
use Rattle.std.proofs.lemmas.List.Elements.{All-head, All-tail}
use Rattle.mlp_arith.specs.Words.{clear, wrap}
use Rattle.mlp_arith.specs.Ranges.{Is26}
use Rattle.mlp_syntax.specs.declared.params.ChannelParams.{ChannelParams}
use Rattle.mlp_syntax.specs.declared.segment.Code.{Code}
use Rattle.mlp_params.specs.declared.state.ChannelState.{ChannelState}
use Rattle.mlp_params.specs.Applied.{channel_applied}
use Rattle.mlp_params.specs.Filters.{order_of}
use Rattle.mlp_params.specs.States.{IsChannelState}
use Rattle.mlp_predict.specs.Prediction.{Past, Filters, residuals_of, outputs_of, past_of, latest}
use Rattle.mlp_predict.specs.Filters.{filters_of}
use Rattle.mlp_predict.specs.Outputs.{outputs_from, past_from, block_of, with_state_first}
use Rattle.mlp_predict.proofs.FrameLists.{state_outputs, state_past}
use Rattle.mlp_predict.proofs.Scaling.{length-scaled}
use Rattle.mlp_predict.proofs.Sequences.{outputs_of-residuals_of}
use Rattle.mlp_residual.specs.Coding.{residual_of, Spells, TakeBits, Counts}
use Rattle.mlp_channels.specs.Channels.{state_of_channel}
use Rattle.mlp_channels.proofs.GivenRanges.{order_most}
use Rattle.mlp_search.specs.declared.pair.Pair.{Pair}
use Rattle.mlp_search.specs.declared.choice.Choice.{Choice}
use Rattle.mlp_search.specs.Candidates.{residuals_for}
use Rattle.mlp_search.specs.Given.{given}
use Rattle.mlp_search.specs.Cost.{code_for}
use Rattle.mlp_search.specs.Least.{chosen}
use Rattle.mlp_search.proofs.CandidateLaws.{HasCost, has_cost}
use Rattle.mlp_search.proofs.ChosenLaws.{chosen_least}
use Rattle.mlp_search.proofs.CodeLaws.{Judges, code_judged, bits_counted}
use Rattle.mlp_search.proofs.FilterLaws.{no_state}
use Rattle.mlp_search.proofs.GivenLaws.{pair_there, given_is_pair}
use Rattle.mlp_search.proofs.SearchLaws.{words_from}
use Rattle.mlp_encode.specs.Coding.{Sent, nothing, code_by, code_of, past_with, residuals, written, channel_sent}
use Rattle.mlp_encode.proofs.CodingLaws.{given_is, book_behind, low_behind, offset_behind, state_behind}
use Rattle.mlp_encode.proofs.SentCodes.{codes_count}
use Rattle.mlp_encode.proofs.ChannelFits.{is, there as choice_there}
use Rattle.mlp_lossless.specs.Chosen.{IsLeastFor}

-- ---- codes

module _ (book b : ℕ) (offset : ℤ) (step : ℕ) where
  code_back : (r : ℤ) (o : Option Code) (code : Code) → Judges book b offset step r o → Spells book b offset step r code → FitsSigned w32 r → residual_of book b offset step (unwrap_or o nothing) ≡ r
  code_back r None code j s fits = absurd (j.none code s)
  code_back r (Some c) code j s fits = ap wrap j.some.value ∙ int_wrap_fits w32 r fits

  -- residuals that all have codes are those of their codes
  codes_back : (rs : List ℤ) (n : ℕ) → TakeBits book b offset step rs n → All (FitsSigned w32) rs → map (residual_of book b offset step) (map (code_by book b offset step) rs) ≡ rs
  unfolding TakeBits
  codes_back [] n t fits = refl
  codes_back (r ∷ rs) n t fits =
      let later : List ℤ = map (residual_of book b offset step) (map (code_by book b offset step) rs) in
      ap (λ (x : ℤ). x ∷ later) (code_back r (code_for book b offset step r) t.0 (code_judged book b offset step r) t.2 (All-head (FitsSigned w32) r rs fits))
      ∙ ap (λ (xs : List ℤ). r ∷ xs) (codes_back rs t.1 t.3 (All-tail (FitsSigned w32) r rs fits))

-- ---- the channel

words : (xs : List ℤ) → All Is26 xs → All (FitsSigned w32) xs
words xs h = λ i d l. omega (arith, ints, (h i d l).low, (h i d l).high)

-- what a channel's parameters and samples have to be, so that it can be sent
pub record CanSend (force : ChannelState) (step : ℕ) (filters : Bool) (samples : List ℤ) : Type 0 where
  pub state : IsChannelState force
  pub small : step ≤ 8
  pub few : All Is26 samples
  pub whole : All (λ x. clear step x ≡ x) samples
  pub no_fir : filters ≡ false → order_of force.fir ≡ 0
  pub no_iir : filters ≡ false → order_of force.iir ≡ 0

module _ (force : ChannelState) (past : Past) (step : ℕ) (filters : Bool) (samples : List ℤ) (h : CanSend force step filters samples) where
  abbrev pub x : Sent
  x = channel_sent force past step filters samples

  abbrev c : Choice
  c = chosen force past step filters samples

  costs : HasCost force past step filters samples (chosen force past step filters samples) (chosen force past step filters samples).bits
  costs = has_cost force past step filters samples (chosen force past step filters samples) (chosen force past step filters samples).bits (chosen_least force past step filters samples h.state h.small h.few h.whole h.no_fir h.no_iir).costs

  abbrev g : Option ChannelParams
  g = written force past step filters samples

  abbrev behind : ChannelState
  behind = channel_applied force (written force past step filters samples)

  abbrev f : Filters
  f = filters_of (channel_applied force (written force past step filters samples)).fir (channel_applied force (written force past step filters samples)).iir

  abbrev rs : List ℤ
  rs = residuals (channel_applied force (written force past step filters samples)) (written force past step filters samples) past step samples

  there : Pair
  there = costs.pair

  g_is : written force past step filters samples ≡ given force costs.pair (chosen force past step filters samples)
  g_is = given_is force past step samples (chosen force past step filters samples) costs.pair h.state costs.there

  filters_are : filters_of behind.fir behind.iir ≡ filters_of costs.pair.fir costs.pair.iir
  filters_are =
      ap (λ (o : Option ChannelParams). filters_of (channel_applied force o).fir (channel_applied force o).iir) g_is
      ∙ given_is_pair force step samples c costs.pair h.state costs.there

  residuals_are : rs ≡ residuals_for past step samples c.filter costs.pair
  residuals_are =
      let pair : Pair = costs.pair in
      let none = no_state 4 pair.iir (pair_there force step samples c.filter pair h.state costs.there).iir in
      ap (λ (f : Filters). residuals_of f (past_with g past) step samples) filters_are
      ∙ ap (λ (o : Option ChannelParams). residuals_of (filters_of pair.fir pair.iir) (past_with o past) step samples) g_is
      ∙ ap (λ (p : Past). residuals_of (filters_of pair.fir pair.iir) p step samples) (state_behind force pair c past none)

  all_words : All (FitsSigned w32) rs
  all_words = subst (λ (xs : List ℤ). All (FitsSigned w32) xs) (sym residuals_are) (words_from _ costs.costs.words)

  book_is : behind.book ≡ c.book
  book_is = ap (λ (o : Option ChannelParams). (channel_applied force o).book) g_is ∙ book_behind force costs.pair c

  low_is : behind.low ≡ c.low
  low_is = ap (λ (o : Option ChannelParams). (channel_applied force o).low) g_is ∙ low_behind force costs.pair c

  offset_is : behind.offset ≡ c.offset
  offset_is = ap (λ (o : Option ChannelParams). (channel_applied force o).offset) g_is ∙ offset_behind force costs.pair c

  takes : TakeBits behind.book (behind.low - step) behind.offset step rs costs.costs.codes
  takes =
      let n : ℕ = costs.costs.codes in
      let there = subst (λ (o : Option ℕ). Counts c.book (c.low - step) c.offset step (residuals_for past step samples c.filter costs.pair) o) costs.costs.taken
      (bits_counted c.book (c.low - step) c.offset step (residuals_for past step samples c.filter costs.pair)) in
      subst (λ (k : ℕ). TakeBits k (behind.low - step) behind.offset step rs n) (sym book_is)
      (subst (λ (k : ℕ). TakeBits c.book (k - step) behind.offset step rs n) (sym low_is)
      (subst (λ (z : ℤ). TakeBits c.book (c.low - step) z step rs n) (sym offset_is)
      (subst (λ (xs : List ℤ). TakeBits c.book (c.low - step) c.offset step xs n) (sym residuals_are) there)))

  fir_few : length f.fir ≤ 8
  fir_few =
      let p = pair_there force step samples c.filter costs.pair h.state costs.there in
      subst (λ (f : Filters). length f.fir ≤ 8) (sym filters_are) (omega (arith, length-scaled costs.pair.fir.coeff_shift costs.pair.fir.coeffs.items, order_most 8 false costs.pair.fir p.fir))

  iir_few : length f.iir ≤ 4
  iir_few =
      let p = pair_there force step samples c.filter costs.pair h.state costs.there in
      subst (λ (f : Filters). length f.iir ≤ 4) (sym filters_are) (omega (arith, length-scaled costs.pair.iir.coeff_shift costs.pair.iir.coeffs.items, order_most 4 false costs.pair.iir p.iir))

  -- it is the least choice
  pub least_for : IsLeastFor (record { force = force; past = past; step = step; filters = filters; samples = samples }) x.given x.codes
  least_for =
      let of_choice = is force past step filters samples h.state h.small h.few h.whole h.no_fir h.no_iir in
      let cost = choice_there force past step filters samples h.state h.small h.few h.whole h.no_fir h.no_iir in
      record {
        choice = chosen force past step filters samples;
        least = chosen_least force past step filters samples h.state h.small h.few h.whole h.no_fir h.no_iir;
        written_is = ap (λ (s : Sent). s.given) of_choice;
        pair = cost.pair;
        pair_is = cost.there;
        codes_are = ap (λ (s : Sent). s.codes) of_choice;
      }

  -- its codes have the residuals of its samples
  pub codes_give : map (residual_of behind.book (behind.low - step) behind.offset step) x.codes ≡ rs
  unfolding channel_sent
  codes_give = codes_back behind.book (behind.low - step) behind.offset step rs costs.costs.codes takes all_words

  restored_all : outputs_of f (past_with g past) step rs ≡ samples
  restored_all = outputs_of-residuals_of f (past_with g past) step samples h.whole (words samples h.few)

  -- frames of these residuals give back the samples
  pub outputs_back : outputs_from 8 4 past (with_state_first (state_of_channel g) (block_of f step rs)) ≡ samples
  outputs_back = state_outputs 8 4 f past step (state_of_channel g) rs fir_few iir_few ∙ restored_all

  rs_some : 0 < length samples → 0 < length rs
  unfolding channel_sent
  rs_some some =
      let n = length-map rs (code_of behind step) in
      let m = codes_count force past step filters samples in
      omega (arith, some, n, m)

  -- .. and leave the past that the encoder goes on with
  pub past_back : 0 < length samples → past_from 8 4 past (with_state_first (state_of_channel g) (block_of f step rs)) ≡ x.past
  unfolding channel_sent
  past_back some =
      state_past 8 4 f past step (state_of_channel g) rs fir_few iir_few (rs_some some)
      ∙ ap (λ (xs : List ℤ). latest 8 4 (past_of f (past_with g past) xs)) restored_all
