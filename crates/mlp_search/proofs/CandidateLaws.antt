-- What has a cost, and that something has.
use Rattle.std.proofs.Common.{◌≡◌, ℕ, zero, suc, ◌+◌, ◌-◌, ◌*◌, ◌/◌, ◌%◌, ◌<◌, ◌≤◌, ◌^◌, ℤ, pos, negsuc, neg_ℤ, ◌+ℤ◌, ◌-ℤ◌, ◌*ℤ◌, ◌≤ℤ◌}
use Rattle.std.proofs.Common.{◌<ℤ◌, Bool, true, false, List, [], ◌∷◌, length, replicate, Option, Some, None, arith, refl, sym, ◌∙◌, ap, inl, inr, pow-suc}
use Rattle.std.specs.Prelude.{All, ◌==◌, ◌||◌, ◌&&◌, nat_le, nat_lt, slice_get, if◌then◌else◌}
use Rattle.std.specs.Option.{option_map, option_and_then, option_map_or}
use Rattle.std.specs.List.{list_all}
use Rattle.std.proofs.lemmas.Int.{ints}
use Rattle.std.proofs.lemmas.Bool.{leb-true, le-leb, lt-leb, lt-ltb, ne_eqb, eq-eqb, and_parts, cases_lt}
use Rattle.std.proofs.lemmas.Bool.Decides.{Decides-int_eq}
use Rattle.std.specs.Ordering.{int_eq}
use Rattle.std.proofs.lemmas.Nat.{pow-add}
use Rattle.std.proofs.Math.Nat.{zero-div, div-eq_of_lt, lt_of_mul-lt-mul_right, le_of_mul-le-mul_right}
use Rattle.std.proofs.Math.Pow.{pow_pos}
use Rattle.mlp_arith.specs.Words.{floor_by, clear}
use Rattle.mlp_arith.specs.Ranges.{Is26}
use Rattle.mlp_syntax.specs.declared.params.Filter.{Filter}
use Rattle.mlp_syntax.specs.declared.segment.Code.{Code}
use Rattle.mlp_params.specs.declared.state.ChannelState.{ChannelState}
use Rattle.mlp_params.specs.Filters.{order_of, absent}
use Rattle.mlp_params.specs.States.{IsChannelState}
use Rattle.mlp_predict.specs.Prediction.{Filters, Past, dot, predicted, past_after, residuals_of}
use Rattle.mlp_predict.specs.Filters.{filters_of, scaled}
use Rattle.mlp_residual.specs.Coding.{length_of}
use Rattle.mlp_residual.proofs.Counting.{length_is}
use Rattle.mlp_books.specs.Books.{symbol_in}
use Rattle.mlp_layout.specs.Layout.{made}
use Rattle.mlp_levinson.specs.Computed.{has_bits, computed}
use Rattle.mlp_search.specs.declared.pair.Pair.{Pair}
use Rattle.mlp_search.specs.declared.choice.Choice.{Choice}
use Rattle.mlp_search.specs.Candidates.{in_force, table, alone, pair_of, past_for, residuals_for, middle_of}
use Rattle.mlp_search.specs.Given.{IsPair, fir_stays, iir_stays, fir_given, iir_given, with_zeros, all_stays}
use Rattle.mlp_search.specs.Cost.{code_at, code_for, sum_of, bits_for, filter_bits, fir_bits, iir_bits, offset_bits, parameter_bits, parameter_sum, most_low, in_range, cost_over, cost_of}
use Rattle.mlp_search.specs.Least.{choice_of, middle_for}
use Rattle.mlp_search.proofs.CostLaws.{Costs, costs_from, cost_is, parameters_is, offset_either, offset_fits, words_true}
use Rattle.mlp_search.proofs.PairLaws.{pair_is}
use Rattle.mlp_search.proofs.Ranks.{IsCost}

-- ---- what has a cost

-- its filters, and its cost over their residuals
pub record HasCost (force : ChannelState) (past : Past) (step : ℕ) (filters : Bool) (samples : List ℤ) (c : Choice) (n : ℕ) : Type 0 where
  pub pair : Pair
  pub there : pair_of force step samples c.filter ≡ Some pair
  pub costs : Costs force step filters pair (residuals_for past step samples c.filter pair) c n

pub has_cost : (force : ChannelState) (past : Past) (step : ℕ) (filters : Bool) (samples : List ℤ) (c : Choice) (n : ℕ) → cost_of force past step filters samples c ≡ Some n → HasCost force past step filters samples c n
has_cost force past step filters samples c n e = pick (pair_of force step samples c.filter) refl e
  where
    pick : (o : Option Pair) → pair_of force step samples c.filter ≡ o → option_and_then (λ pair. cost_over force step filters pair (residuals_for past step samples c.filter pair) c) o ≡ Some n → HasCost force past step filters samples c n
    pick None is e = absurd cc
    pick (Some pair) is e = record { pair = pair; there = is; costs = costs_from force step filters pair (residuals_for past step samples c.filter pair) c n e }

numbers_end : (force : ChannelState) (step : ℕ) (samples : List ℤ) (n : ℕ) (pair : Pair) → pair_of force step samples n ≡ Some pair → n < 18
numbers_end force step samples n pair e = elim (cases_lt n 18) [
  | inl lt ↦ lt
  | inr ge ↦ absurd (let none : pair_of force step samples n ≡ None = beyond ge in let s : Some pair ≡ None = sym e ∙ none in cc)
]
  where
    beyond : 18 ≤ n → pair_of force step samples n ≡ None
    beyond ge =
        let a : (n == 0) ≡ false = ne_eqb n 0 (λ e. absurd (omega (arith, ge, e))) in
        let b : nat_le n 9 ≡ false = lt-leb n 9 (omega (arith, ge)) in
        let d : nat_le n 17 ≡ false = lt-leb n 17 (omega (arith, ge)) in
        ap (λ (t : Bool). if t then Some (in_force force) else if nat_le n 9 then slice_get table (n - 1) else if nat_le n 17 then option_map alone (computed step samples (n - 9)) else None) a
        ∙ ap (λ (t : Bool). if t then slice_get table (n - 1) else if nat_le n 17 then option_map alone (computed step samples (n - 9)) else None) b
        ∙ ap (λ (t : Bool). if t then option_map alone (computed step samples (n - 9)) else None) d

pub record Ranges (step : ℕ) (c : Choice) : Type 0 where
  pub book : c.book ≤ 3
  pub from : step ≤ c.low
  pub low : c.low ≤ most_low c.book

pub ranges : (step : ℕ) (filters : Bool) (c : Choice) → in_range step filters c ≡ true → Ranges step c
ranges step filters c e =
    let p = and_parts ((filters || (c.filter == 0)) && nat_le c.book 3 && nat_le step c.low) (nat_le c.low (most_low c.book)) e in
    let q = and_parts ((filters || (c.filter == 0)) && nat_le c.book 3) (nat_le step c.low) p.0 in
    let r = and_parts (filters || (c.filter == 0)) (nat_le c.book 3) q.0 in
    record { book = leb-true c.book 3 r.1; from = leb-true step c.low q.1; low = leb-true c.low (most_low c.book) p.1 }

most_below : (book : ℕ) → most_low book < 32
most_below zero = omega arith
most_below (suc book) = omega arith

pub is_cost : (force : ChannelState) (past : Past) (step : ℕ) (filters : Bool) (samples : List ℤ) → IsCost (cost_of force past step filters samples) (middle_for force past step samples)
is_cost force past step filters samples = record {
  blind = λ c n. refl;
  filter = λ c n e. let h = has_cost force past step filters samples c n e in numbers_end force step samples c.filter h.pair h.there;
  book = λ c n e. let h = has_cost force past step filters samples c n e in let r = ranges step filters c h.costs.range in omega (arith, r.book);
  low = λ c n e. let h = has_cost force past step filters samples c n e in let r = ranges step filters c h.costs.range in omega (arith, r.low, most_below c.book);
  offset = λ c n e.
      let h = has_cost force past step filters samples c n e in
      let rs : List ℤ = residuals_for past step samples c.filter h.pair in
      let is : middle_of step rs ≡ middle_for force past step samples c.filter = sym (ap (λ (o : Option Pair). option_map_or (λ pair. middle_of step (residuals_for past step samples c.filter pair)) o (pos 0)) h.there) in
      elim (offset_either step rs c.offset h.costs.offset) [
        | inl z ↦ inl z
        | inr m ↦ inr (m ∙ is)
      ];
}

-- ---- residuals without filters

floor_zero : (s : ℕ) → floor_by s (pos 0) ≡ pos 0
floor_zero s = ap pos (zero-div (2 ^ s))

nothing_predicted : (f : Filters) (past : Past) → f.fir ≡ [] → f.iir ≡ [] → predicted f past ≡ pos 0
nothing_predicted f past a b =
    let x : dot f.fir past.outputs ≡ pos 0 = ap (λ (cs : List ℤ). dot cs past.outputs) a in
    let y : dot f.iir past.differences ≡ pos 0 = ap (λ (cs : List ℤ). dot cs past.differences) b in
    let sum : dot f.fir past.outputs +ℤ dot f.iir past.differences ≡ pos 0 = omega (arith, ints, x, y) in
    ap (floor_by f.shift) sum ∙ floor_zero f.shift

samples_stay : (f : Filters) (past : Past) (step : ℕ) (samples : List ℤ) → f.fir ≡ [] → f.iir ≡ [] → residuals_of f past step samples ≡ samples
samples_stay f past step [] a b = refl
samples_stay f past step (x ∷ xs) a b =
    let none : clear step (predicted f past) ≡ pos 0 = ap (clear step) (nothing_predicted f past a b) ∙ ap (λ (z : ℤ). z *ℤ pos (2 ^ step)) (floor_zero step) ∙ omega (arith, ints) in
    let here : x -ℤ clear step (predicted f past) ≡ x = omega (arith, ints, none) in
    ap (λ (z : ℤ). z ∷ residuals_of f (past_after f past x) step xs) here ∙ ap (λ (zs : List ℤ). x ∷ zs) (samples_stay f (past_after f past x) step xs a b)

-- ---- their codes of 26 low bits

length_zero : (b : ℕ) (c : Code) → length_of 0 b c ≡ b
unfolding symbol_in made
length_zero b c = omega (arith, length_is 0 b c)

-- a sample over 2^step
record IsOver (step : ℕ) (v : ℤ) : Type 0 where
  low : neg_ℤ (pos (2 ^ (25 - step))) ≤ℤ v
  high : v <ℤ pos (2 ^ (25 - step))

over_is : (step : ℕ) (v x : ℤ) → step ≤ 8 → v *ℤ pos (2 ^ step) ≡ x → Is26 x → IsOver step v
over_is step (pos n) x le e h =
    let whole : 2 ^ (25 - step) * 2 ^ step ≡ 2 ^ 25 = sym (pow-add 2 (25 - step) step) ∙ ap (λ (k : ℕ). 2 ^ k) (let s : 25 - step + step ≡ 25 = omega arith in s) in
    let less : n * 2 ^ step < 2 ^ (25 - step) * 2 ^ step = omega (arith, ints, e, h.high, whole) in
    let below : n < 2 ^ (25 - step) = lt_of_mul-lt-mul_right (2 ^ step) less in
    record { low = omega (arith, ints); high = omega (arith, ints, below) }
over_is step (negsuc n) x le e h =
    let whole : 2 ^ (25 - step) * 2 ^ step ≡ 2 ^ 25 = sym (pow-add 2 (25 - step) step) ∙ ap (λ (k : ℕ). 2 ^ k) (let s : 25 - step + step ≡ 25 = omega arith in s) in
    let less : suc n * 2 ^ step ≤ 2 ^ (25 - step) * 2 ^ step = omega (arith, ints, e, h.low, whole) in
    let below : suc n ≤ 2 ^ (25 - step) = le_of_mul-le-mul_right less (pow_pos step) in
    record { low = omega (arith, ints, below); high = omega (arith, ints) }

first_code : (b p : ℕ) → p < 2 ^ b → (c : Code) × (code_at 0 b (pos p) ≡ Some c)
first_code b p lt =
    let z : p / 2 ^ b ≡ 0 = div-eq_of_lt lt in
    let t : nat_lt (p / 2 ^ b) 1 ≡ true = lt-ltb (p / 2 ^ b) 1 (omega (arith, z)) in
    (record { symbol = p / 2 ^ b; low = p % 2 ^ b }, ap (λ (t : Bool). if t then Some (record { symbol = p / 2 ^ b; low = p % 2 ^ b }) else None) t)

natural : (z : ℤ) (m : ℕ) → pos 0 ≤ℤ z → z <ℤ pos m → (p : ℕ) × (z ≡ pos p) × (p < m)
natural (pos p) m l h = (p, refl, omega (arith, ints, h))
natural (negsuc n) m l h = absurd (omega (arith, ints, l))

code_from : (b step : ℕ) (x : ℤ) (n : ℕ) (c : Code) → int_eq (clear step x) x ≡ true → floor_by step x -ℤ pos 0 +ℤ pos (2 ^ b / 2) ≡ pos n → code_at 0 b (pos n) ≡ Some c → code_for 0 b (pos 0) step x ≡ Some c
code_from b step x n c t p f = ap (λ (t : Bool). if t then code_at 0 b (floor_by step x -ℤ pos 0 +ℤ pos (2 ^ b / 2)) else None) t ∙ ap (code_at 0 b) p ∙ f

sample_code : (step : ℕ) (x : ℤ) → step ≤ 8 → Is26 x → clear step x ≡ x → (c : Code) × (code_for 0 (26 - step) (pos 0) step x ≡ Some c)
sample_code step x le h whole =
    let v : ℤ = floor_by step x in
    let o : IsOver step v = over_is step v x le whole h in
    let next : 26 - step ≡ suc (25 - step) = omega arith in
    let two : 2 ^ (26 - step) ≡ 2 ^ (25 - step) * 2 = ap (λ (k : ℕ). 2 ^ k) next ∙ pow-suc 2 (25 - step) in
    let place : ℤ = v -ℤ pos 0 +ℤ pos (2 ^ (26 - step) / 2) in
    let low : pos 0 ≤ℤ place = omega (arith, ints, o.low, two) in
    let high : place <ℤ pos (2 ^ (26 - step)) = omega (arith, ints, o.high, two) in
    let p = natural place (2 ^ (26 - step)) low high in
    let c = first_code (26 - step) p.0 p.2 in
    let t : int_eq (clear step x) x ≡ true = (Decides-int_eq (clear step x) x).1 whole in
    (c.0, code_from (26 - step) step x p.0 c.0 t p.1 c.1)

record Codes (step : ℕ) (xs : List ℤ) : Type 0 where
  bits : ℕ
  is : bits_for 0 (26 - step) (pos 0) step xs ≡ Some bits
  most : bits ≤ 26 * length xs

sample_codes : (step : ℕ) (xs : List ℤ) → step ≤ 8 → All Is26 xs → All (λ x. clear step x ≡ x) xs → Codes step xs
sample_codes step [] le h whole = record { bits = 0; is = refl; most = omega arith }
sample_codes step (x ∷ xs) le h whole =
    let c = sample_code step x le (h 0 x (omega arith)) (whole 0 x (omega arith)) in
    let later = sample_codes step xs le (λ i d l. h (suc i) d (omega arith)) (λ i d l. whole (suc i) d (omega arith)) in
    let size = length_zero (26 - step) c.0 in
    record {
      bits = length_of 0 (26 - step) c.0 + later.bits;
      is = ap (λ (o : Option Code). sum_of (option_map (length_of 0 (26 - step)) o) (bits_for 0 (26 - step) (pos 0) step xs)) c.1 ∙ ap (λ (o : Option ℕ). sum_of (Some (length_of 0 (26 - step) c.0)) o) later.is;
      most = omega (arith, later.most, size);
    }

-- ---- the parameters without filters

absent_bits : {n : ℕ} (f : Filter n) → order_of f ≡ 0 → filter_bits f ≡ 4
absent_bits f e = ap (λ (b : Bool). if b then 4 else 17 + order_of f * f.coeff_bits) (eq-eqb (order_of f) 0 e)

few_fir : (force : ChannelState) (n : ℕ) (pair : Pair) → order_of pair.fir ≡ 0 → fir_bits (fir_given force n pair) ≤ 4
few_fir force n pair e = pick (fir_stays force n pair)
  where
    pick : (t : Bool) → fir_bits (if t then None else Some pair.fir) ≤ 4
    pick true = omega arith
    pick false = omega (arith, absent_bits pair.fir e)

few_iir : (force : ChannelState) (n : ℕ) (pair : Pair) → order_of pair.iir ≡ 0 → iir_bits (iir_given force n pair) ≤ 4
few_iir force n pair e = pick (iir_stays force n pair)
  where
    same : with_zeros pair.iir ≡ pair.iir
    same = ap (λ (b : Bool). if b then pair.iir else record (pair.iir) { state = Some (record { bits = 0; shift = 0; values = record { items = replicate (order_of pair.iir) (pos 0) } }) }) (eq-eqb (order_of pair.iir) 0 e)

    four : iir_bits (Some pair.iir) ≡ 4
    four = ap (λ (b : Bool). filter_bits pair.iir + (if b then 0 else 8)) (eq-eqb (order_of pair.iir) 0 e) ∙ omega (arith, absent_bits pair.iir e)

    pick : (t : Bool) → iir_bits (if t then None else Some (with_zeros pair.iir)) ≤ 4
    pick true = omega arith
    pick false = let is : iir_bits (Some (with_zeros pair.iir)) ≡ 4 = ap (λ (f : Filter 4). iir_bits (Some f)) same ∙ four in omega (arith, is)

few_offset : (force : ChannelState) (offset : ℤ) → offset_bits force offset ≤ 15
few_offset force offset = pick (int_eq offset force.offset)
  where
    pick : (t : Bool) → (if t then 0 else 15) ≤ 15
    pick true = omega arith
    pick false = omega arith

few_parameters : (force : ChannelState) (pair : Pair) (c : Choice) → order_of pair.fir ≡ 0 → order_of pair.iir ≡ 0 → parameter_sum force pair c ≤ 34
few_parameters force pair c f i = pick (all_stays force pair c)
  where
    pick : (t : Bool) → (if t then 1 else 11 + fir_bits (fir_given force c.filter pair) + iir_bits (iir_given force c.filter pair) + offset_bits force c.offset) ≤ 34
    pick true = omega arith
    pick false = omega (arith, few_fir force c.filter pair f, few_iir force c.filter pair i, few_offset force c.offset)

-- ---- there is a candidate

-- a choice has a cost of at most 34 bits and 26 a sample
pub record IsCheap (cost : Choice → Option ℕ) (count : ℕ) (c : Choice) : Type 0 where
  pub bits : ℕ
  pub costs : cost c ≡ Some bits
  pub most : bits ≤ 34 + 26 * count

nothing_scaled : {n : ℕ} (f : Filter n) → order_of f ≡ 0 → scaled f.coeff_shift f.coeffs.items ≡ []
nothing_scaled f e = ap (scaled f.coeff_shift) (no_items f.coeffs.items e)
  where
    no_items : (xs : List ℤ) → length xs ≡ 0 → xs ≡ []
    no_items [] e = refl
    no_items (x ∷ xs) e = absurd (omega (arith, e))

small_words : (xs : List ℤ) → All Is26 xs → list_all (has_bits 32) xs ≡ true
small_words xs h = words_true xs (λ i d l. let b = h i d l in omega (arith, ints, b.low, b.high))

module _ (force : ChannelState) (past : Past) (step : ℕ) (filters : Bool) (samples : List ℤ) (le : step ≤ 8) (h : All Is26 samples) (whole : All (λ x. clear step x ≡ x) samples) where
  cheap_at : (n : ℕ) (pair : Pair) → pair_of force step samples n ≡ Some pair → IsPair pair → order_of pair.fir ≡ 0 → order_of pair.iir ≡ 0 → (filters || (n == 0)) ≡ true
      → IsCheap (cost_of force past step filters samples) (length samples) (choice_of n 0 26 (pos 0))
  cheap_at n pair there p fir iir first =
      let c : Choice = choice_of n 0 26 (pos 0) in
      let rs : List ℤ = residuals_for past step samples n pair in
      let stay : rs ≡ samples = samples_stay (filters_of pair.fir pair.iir) (past_for n pair past) step samples (nothing_scaled pair.fir fir) (nothing_scaled pair.iir iir) in
      let range : in_range step filters c ≡ true = ap (λ (t : Bool). t && nat_le 0 3 && nat_le step 26 && nat_le 26 31) first ∙ ap (λ (t : Bool). t && nat_le 26 31) (le-leb step 26 (omega (arith, le))) in
      let codes = sample_codes step samples le h whole in
      let is : parameter_bits force pair c ≡ parameter_sum force pair c = parameters_is force pair c p (offset_fits step samples (pos 0) refl) in
      record {
        bits = parameter_bits force pair c + codes.bits;
        costs = ap (λ (o : Option Pair). option_and_then (λ q. cost_over force step filters q (residuals_for past step samples n q) c) o) there
            ∙ ap (λ (xs : List ℤ). cost_over force step filters pair xs c) stay
            ∙ cost_is force step filters pair samples c range refl (small_words samples h)
            ∙ ap (λ (o : Option ℕ). option_map (λ k. parameter_bits force pair c + k) o) codes.is;
        most = omega (arith, is, few_parameters force pair c fir iir, codes.most);
      }

  pub cheap : IsChannelState force → (filters ≡ false → order_of force.fir ≡ 0) → (filters ≡ false → order_of force.iir ≡ 0) → (c : Choice) × IsCheap (cost_of force past step filters samples) (length samples) c
  cheap s fir iir = pick filters refl
    where
      pick : (t : Bool) → filters ≡ t → (c : Choice) × IsCheap (cost_of force past step filters samples) (length samples) c
      pick true e = (choice_of 1 0 26 (pos 0), cheap_at 1 (alone absent) refl (pair_is force step samples 1 s) refl refl (ap (λ (t : Bool). t || (1 == 0)) e))
      pick false e = (choice_of 0 0 26 (pos 0), cheap_at 0 (in_force force) refl (pair_is force step samples 0 s) (fir e) (iir e) (ap (λ (t : Bool). t || (0 == 0)) e))
