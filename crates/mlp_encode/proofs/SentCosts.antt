-- What is sent of a channel takes no more bits than the choice costs.
use Rattle.std.proofs.Common.{◌≡◌, ℕ, ◌+◌, ◌-◌, ◌*◌, ◌≤◌, ℤ, Bool, true, false, List, [], ◌∷◌, map, length, get_or, Option, Some, None, refl, sym, ap, ◌∙◌, arith}
use Rattle.std.specs.Prelude.{All, unwrap_or}
use Rattle.std.specs.Option.{option_map}
use Rattle.mlp_arith.specs.Words.{clear}
use Rattle.mlp_arith.specs.Ranges.{Is26}
use Rattle.mlp_syntax.specs.declared.params.ChannelParams.{ChannelParams}
use Rattle.mlp_syntax.specs.declared.segment.Code.{Code}
use Rattle.mlp_layout.specs.Combined.{group}
use Rattle.mlp_params.specs.declared.state.ChannelState.{ChannelState}
use Rattle.mlp_params.specs.Filters.{order_of}
use Rattle.mlp_params.specs.Parameters.{channel}
use Rattle.mlp_params.specs.States.{IsChannelState}
use Rattle.mlp_predict.specs.Prediction.{Past}
use Rattle.mlp_predict.specs.Filters.{filters_of}
use Rattle.mlp_residual.specs.Coding.{length_of}
use Rattle.mlp_residual.specs.Frames.{code}
use Rattle.mlp_search.specs.Candidates.{past_for, residuals_for}
use Rattle.mlp_search.specs.Cost.{code_for, sum_of, bits_for, parameter_bits}
use Rattle.mlp_search.proofs.ChosenLaws.{chosen_cheap}
use Rattle.mlp_encode.specs.Coding.{Sent, nothing, code_by}
use Rattle.mlp_encode.proofs.SentCodes.{length-residuals}
use Rattle.mlp_encode.proofs.ChannelFits.{k, sent, behind, there, is, gives, book_is, low_is}
use Rattle.mlp_encode.proofs.Sums.{sums, sums_from_one}

-- ---- codes that are counted

record Parts (a b : Option ℕ) (n : ℕ) : Type 0 where
  first : ℕ
  rest : ℕ
  first_is : a ≡ Some first
  rest_is : b ≡ Some rest
  sum_is : n ≡ first + rest

some_is : (m n : ℕ) (o : Option ℕ) → o ≡ Some m → o ≡ Some n → m ≡ n
some_is m n o e f = cc

parts : (a b : Option ℕ) (n : ℕ) → sum_of a b ≡ Some n → Parts a b n
parts None b n e = absurd cc
parts (Some m) None n e = absurd cc
parts (Some m) (Some k) n e = record { first = m; rest = k; first_is = refl; rest_is = refl; sum_is = some_is n (m + k) (Some (m + k)) e refl }

counted : (f : Code → ℕ) (o : Option Code) (n : ℕ) → option_map f o ≡ Some n → f (unwrap_or o nothing) ≡ n
counted f None n e = absurd cc
counted f (Some c) n e = some_is (f c) n (Some (f c)) refl e

pub codes_taken : (book b : ℕ) (offset : ℤ) (step : ℕ) (rs : List ℤ) (n : ℕ) → bits_for book b offset step rs ≡ Some n
    → sums (λ i. length_of book b (get_or (map (code_by book b offset step) rs) i nothing)) 0 (length rs) ≡ n
codes_taken book b offset step [] n e = some_is 0 n (Some 0) refl e
codes_taken book b offset step (r ∷ rs) n e =
    let p = parts (option_map (length_of book b) (code_for book b offset step r)) (bits_for book b offset step rs) n e in
    let first = counted (length_of book b) (code_for book b offset step r) p.first p.first_is in
    let rest = codes_taken book b offset step rs p.rest p.rest_is in
    let shift = sums_from_one (λ i. length_of book b (get_or (code_by book b offset step r ∷ map (code_by book b offset step) rs) i nothing)) (length rs) in
    omega (arith, p.sum_is, first, rest, shift)

-- ---- a channel

module _ (force : ChannelState) (past : Past) (step : ℕ) (filters : Bool) (samples : List ℤ) (state : IsChannelState force) (small : step ≤ 8) (wide : All Is26 samples) (whole : All (λ x. clear step x ≡ x) samples)
    (fir : filters ≡ false → order_of force.fir ≡ 0) (iir : filters ≡ false → order_of force.iir ≡ 0) where
  abbrev c : Sent
  c = sent force past step filters samples state small wide whole fir iir

  abbrev after : ChannelState
  after = behind force past step filters samples state small wide whole fir iir

  abbrev parameters : ℕ
  parameters = length ((group true (channel 0xFF force)).spelling c.given)

  abbrev codes : ℕ
  codes = sums (λ i. length ((code (record { book = after.book; low = after.low - step })).spelling (get_or c.codes i nothing))) 0 (length samples)

  -- its parameters and its codes
  pub channel_cost : parameters + codes ≤ 34 + 26 * length samples
  channel_cost =
      let choice = k force past step filters samples state small wide whole fir iir in
      let t = there force past step filters samples state small wide whole fir iir in
      let rs : List ℤ = residuals_for past step samples choice.filter t.pair in
      let cheap = chosen_cheap force past step filters samples state small wide whole fir iir in
      let count : length rs ≡ length samples = length-residuals (filters_of t.pair.fir t.pair.iir) (past_for choice.filter t.pair past) step samples in
      let first : parameters ≡ parameter_bits force t.pair choice =
      ap (λ (g : Option ChannelParams). length ((group true (channel 0xFF force)).spelling g)) (gives force past step filters samples state small wide whole fir iir) in
      let taken = codes_taken choice.book (choice.low - step) choice.offset step rs t.costs.codes t.costs.taken in
      let same : codes ≡ sums (λ i. length_of choice.book (choice.low - step) (get_or (map (code_by choice.book (choice.low - step) choice.offset step) rs) i nothing)) 0 (length rs) =
      ap (λ (b : ℕ). sums (λ i. length ((code (record { book = b; low = after.low - step })).spelling (get_or c.codes i nothing))) 0 (length samples)) (book_is force past step filters samples state small wide whole fir iir)
      ∙ ap (λ (l : ℕ). sums (λ i. length ((code (record { book = choice.book; low = l - step })).spelling (get_or c.codes i nothing))) 0 (length samples)) (low_is force past step filters samples state small wide whole fir iir)
      ∙ ap (λ (x : Sent). sums (λ i. length_of choice.book (choice.low - step) (get_or x.codes i nothing)) 0 (length samples)) (is force past step filters samples state small wide whole fir iir)
      ∙ ap (λ (n : ℕ). sums (λ i. length_of choice.book (choice.low - step) (get_or (map (code_by choice.book (choice.low - step) choice.offset step) rs) i nothing)) 0 n) (sym count) in
      omega (arith, cheap, first, taken, same, t.costs.total)
