-- The search by filters: choices of a number cost what they cost over the residuals, and others have no cost.
use Rattle.std.proofs.Common.{◌≡◌, ℕ, ◌+◌, ◌-◌, ◌≤◌, ℤ, pos, Bool, true, false, List, ◌++◌, Option, Some, None, arith, refl, sym, ◌∙◌, ap, subst}
use Rattle.std.specs.Prelude.{All, ◌&&◌, ◌||◌, ◌==◌, IsTrue, IsSome, FitsSigned, unwrap_or, if◌then◌else◌, nat_le, option_map}
use Rattle.std.specs.Int.{w32}
use Rattle.std.specs.List.{list_all, flat_map, range_with_len}
use Rattle.std.specs.Option.{option_and_then, option_map_or}
use Rattle.std.proofs.lemmas.Int.{ints}
use Rattle.std.proofs.lemmas.Bool.{and_parts, and_from, ne_eqb}
use Rattle.std.proofs.lemmas.List.{append-nil}
use Rattle.mlp_params.specs.declared.state.ChannelState.{ChannelState}
use Rattle.mlp_predict.specs.Prediction.{Past}
use Rattle.mlp_levinson.specs.Computed.{has_bits}
use Rattle.mlp_levinson.specs.Best.{HasBits}
use Rattle.mlp_levinson.proofs.Widths.{all_from}
use Rattle.mlp_search.specs.declared.choice.Choice.{Choice}
use Rattle.mlp_search.specs.declared.pair.Pair.{Pair}
use Rattle.mlp_search.specs.Candidates.{pair_of, residuals_for, middle_of}
use Rattle.mlp_search.specs.Given.{IsPair}
use Rattle.mlp_search.specs.Cost.{parameter_sum, in_range, is_offset, parameter_bits, bits_for, most_low, cost_over, cost_of}
use Rattle.mlp_search.specs.Least.{least_from, with_books, middle_for, choice_of, choices, chosen}
use Rattle.mlp_search.proofs.CostLaws.{Costs, parameters_is, offset_fits, words_true, cost_is}
use Rattle.mlp_search.proofs.CandidateLaws.{has_cost}
use Rattle.mlp_search.proofs.Scanning.{least_from-append, along_range, books_along, none_scanned, same_scanned}

-- ---- words

word_from : (z : ℤ) → HasBits 32 z → FitsSigned w32 z
word_from z h = omega (arith, ints, h.low, h.high)

pub words_from : (rs : List ℤ) → list_all (has_bits 32) rs ≡ true → All (FitsSigned w32) rs
words_from rs e = λ i d l. word_from _ (all_from 32 rs e i d l)

-- residuals that aren't all words
wide : (rs : List ℤ) (fit : Bool) → (All (FitsSigned w32) rs → IsTrue fit) → fit ≡ false → list_all (has_bits 32) rs ≡ false
wide rs fit h e = pick (list_all (has_bits 32) rs) refl
  where
    pick : (t : Bool) → list_all (has_bits 32) rs ≡ t → t ≡ false
    pick true is = absurd (let y : fit ≡ true = h (words_from rs is) in let n : true ≡ false = sym y ∙ e in cc)
    pick false is = refl

and_false : (a : Bool) → (a && false) ≡ false
and_false true = refl
and_false false = refl

pub wide_cost : (force : ChannelState) (step : ℕ) (filters : Bool) (pair : Pair) (rs : List ℤ) (c : Choice) → list_all (has_bits 32) rs ≡ false → cost_over force step filters pair rs c ≡ None
wide_cost force step filters pair rs c e =
    let none : (in_range step filters c && is_offset step rs c.offset && list_all (has_bits 32) rs) ≡ false =
    ap (λ (t : Bool). in_range step filters c && is_offset step rs c.offset && t) e ∙ and_false (in_range step filters c && is_offset step rs c.offset)
    in
    ap (λ (t : Bool). if t then option_map (λ k. parameter_bits force pair c + k) (bits_for c.book (c.low - step) c.offset step rs) else None) none

-- ---- the choices of a number

module _ (force : ChannelState) (past : Past) (step : ℕ) (filters : Bool) (samples : List ℤ) (n : ℕ) where
  -- without filters of the number
  pub nothing_there : (mid : ℤ) (best : Option Choice) → pair_of force step samples n ≡ None → least_from (cost_of force past step filters samples) best (with_books n mid) ≡ best
  nothing_there mid best none =
      none_scanned (cost_of force past step filters samples) best (with_books n mid)
      (books_along (λ c. cost_of force past step filters samples c ≡ None) n mid (λ c e.
      ap (λ (o : Option Pair). option_and_then (λ pair. cost_over force step filters pair (residuals_for past step samples c.filter pair) c) o) (ap (pair_of force step samples) e ∙ none)))

  -- what a choice of the number costs
  pub cost_here : (pair : Pair) (c : Choice) → pair_of force step samples n ≡ Some pair → c.filter ≡ n → cost_of force past step filters samples c ≡ cost_over force step filters pair (residuals_for past step samples n pair) c
  cost_here pair c there e =
      ap (λ (o : Option Pair). option_and_then (λ q. cost_over force step filters q (residuals_for past step samples c.filter q) c) o) (ap (pair_of force step samples) e ∙ there)
      ∙ ap (λ (k : ℕ). cost_over force step filters pair (residuals_for past step samples k pair) c) e

  -- the middle
  pub middle_here : (pair : Pair) → pair_of force step samples n ≡ Some pair → middle_for force past step samples n ≡ middle_of step (residuals_for past step samples n pair)
  middle_here pair there = ap (λ (o : Option Pair). option_map_or (λ pair. middle_of step (residuals_for past step samples n pair)) o (pos 0)) there

  -- residuals that aren't all words
  pub too_wide : (mid : ℤ) (best : Option Choice) (pair : Pair) → pair_of force step samples n ≡ Some pair → list_all (has_bits 32) (residuals_for past step samples n pair) ≡ false
      → least_from (cost_of force past step filters samples) best (with_books n mid) ≡ best
  too_wide mid best pair there e =
      none_scanned (cost_of force past step filters samples) best (with_books n mid)
      (books_along (λ c. cost_of force past step filters samples c ≡ None) n mid (λ c is. cost_here pair c there is ∙ wide_cost force step filters pair (residuals_for past step samples n pair) c e))

  pub too_wide_at : (mid : ℤ) (best : Option Choice) (pair : Pair) (fit : Bool) → pair_of force step samples n ≡ Some pair → (All (FitsSigned w32) (residuals_for past step samples n pair) → IsTrue fit) → fit ≡ false
      → best ≡ least_from (cost_of force past step filters samples) best (with_books n mid)
  too_wide_at mid best pair fit there h e = sym (too_wide mid best pair there (wide (residuals_for past step samples n pair) fit h e))

  -- what is found over the residuals
  pub found_here : (best : Option Choice) (pair : Pair) → pair_of force step samples n ≡ Some pair
      → least_from (cost_over force step filters pair (residuals_for past step samples n pair)) best (with_books n (middle_of step (residuals_for past step samples n pair)))
      ≡ least_from (cost_of force past step filters samples) best (with_books n (middle_for force past step samples n))
  found_here best pair there =
      ap (λ (m : ℤ). least_from (cost_over force step filters pair (residuals_for past step samples n pair)) best (with_books n m)) (sym (middle_here pair there))
      ∙ sym (same_scanned (cost_of force past step filters samples) (cost_over force step filters pair (residuals_for past step samples n pair)) best (with_books n (middle_for force past step samples n))
      (books_along (λ c. cost_of force past step filters samples c ≡ cost_over force step filters pair (residuals_for past step samples n pair) c) n (middle_for force past step samples n) (λ c is. cost_here pair c there is)))

  -- .. by filters on trial
  pub found_over : (best result : Option Choice) (pair q : Pair) (rs : List ℤ) (k : ℕ) (mid : ℤ) → pair_of force step samples n ≡ Some pair → rs ≡ residuals_for past step samples n pair → q ≡ pair → k ≡ n → mid ≡ middle_of step rs
      → result ≡ least_from (cost_over force step filters q rs) best (with_books k mid)
      → result ≡ least_from (cost_of force past step filters samples) best (with_books n (middle_for force past step samples n))
  found_over best result pair q rs k mid there is same number middle e =
      e
      ∙ ap (λ (m : ℤ). least_from (cost_over force step filters q rs) best (with_books k m)) middle
      ∙ ap (λ (p : Pair). least_from (cost_over force step filters p rs) best (with_books k (middle_of step rs))) same
      ∙ ap (λ (j : ℕ). least_from (cost_over force step filters pair rs) best (with_books j (middle_of step rs))) number
      ∙ ap (λ (xs : List ℤ). least_from (cost_over force step filters pair xs) best (with_books n (middle_of step xs))) is
      ∙ found_here best pair there

-- .. by a number that is the same
pub same_number : (force : ChannelState) (past : Past) (step : ℕ) (samples : List ℤ) (best result : Option Choice) (n m : ℕ) → n ≡ m
    → result ≡ least_from (cost_of force past step true samples) best (with_books m (middle_for force past step samples m))
    → result ≡ least_from (cost_of force past step true samples) best (with_books n (middle_for force past step samples n))
same_number force past step samples best result n m e h =
    subst (λ (k : ℕ). result ≡ least_from (cost_of force past step true samples) best (with_books k (middle_for force past step samples k))) (sym e) h

-- a choice whose residuals aren't all words
pub no_cost_at : (force : ChannelState) (past : Past) (step : ℕ) (filters : Bool) (samples : List ℤ) (c : Choice) (pair : Pair) (fit : Bool) → pair_of force step samples c.filter ≡ Some pair
    → (All (FitsSigned w32) (residuals_for past step samples c.filter pair) → IsTrue fit) → fit ≡ false → None ≡ cost_of force past step filters samples c
no_cost_at force past step filters samples c pair fit there h e =
    let rs : List ℤ = residuals_for past step samples c.filter pair in
    sym (cost_here force past step filters samples c.filter pair c there refl ∙ wide_cost force step filters pair rs c (wide rs fit h e))

-- ---- the cost over residuals, step by step

pub cost_counted : (force : ChannelState) (step : ℕ) (pair : Pair) (rs : List ℤ) (c : Choice) (k n : ℕ) → IsPair pair → in_range step true c ≡ true → is_offset step rs c.offset ≡ true → All (FitsSigned w32) rs
    → Some k ≡ bits_for c.book (c.low - step) c.offset step rs → n ≡ parameter_sum force pair c → Some (n + k) ≡ cost_over force step true pair rs c
cost_counted force step pair rs c k n p range offset words codes sum =
    let is : parameter_bits force pair c ≡ n = parameters_is force pair c p (offset_fits step rs c.offset offset) ∙ sym sum in
    sym (
    cost_is force step true pair rs c range offset (words_true rs words)
    ∙ ap (λ (o : Option ℕ). option_map (λ m. parameter_bits force pair c + m) o) (sym codes)
    ∙ ap (λ (m : ℕ). Some (m + k)) is
    )

-- ---- without filters but those in force

module _ (force : ChannelState) (past : Past) (step : ℕ) (samples : List ℤ) where
  -- others are no candidates
  others_none : (c : Choice) (n : ℕ) → 1 ≤ n → c.filter ≡ n → cost_of force past step false samples c ≡ None
  others_none c n le e = pick (pair_of force step samples c.filter)
    where
      no : in_range step false c ≡ false
      no = ap (λ (t : Bool). t && nat_le c.book 3 && nat_le step c.low && nat_le c.low (most_low c.book)) (ne_eqb c.filter 0 (λ z. absurd (omega (arith, le, e, z))))

      pick : (o : Option Pair) → option_and_then (λ pair. cost_over force step false pair (residuals_for past step samples c.filter pair) c) o ≡ None
      pick None = refl
      pick (Some pair) =
          ap (λ (t : Bool). if t && is_offset step (residuals_for past step samples c.filter pair) c.offset && list_all (has_bits 32) (residuals_for past step samples c.filter pair)
          then option_map (λ k. parameter_bits force pair c + k) (bits_for c.book (c.low - step) c.offset step (residuals_for past step samples c.filter pair)) else None) no

  -- filter 0 costs as much
  first_same : (c : Choice) → c.filter ≡ 0 → cost_of force past step false samples c ≡ cost_of force past step true samples c
  first_same c e = pick (pair_of force step samples c.filter)
    where
      same : in_range step false c ≡ in_range step true c
      same = ap (λ (k : ℕ). (false || (k == 0)) && nat_le c.book 3 && nat_le step c.low && nat_le c.low (most_low c.book)) e

      pick : (o : Option Pair)
          → option_and_then (λ pair. cost_over force step false pair (residuals_for past step samples c.filter pair) c) o
          ≡ option_and_then (λ pair. cost_over force step true pair (residuals_for past step samples c.filter pair) c) o
      pick None = refl
      pick (Some pair) =
          ap (λ (t : Bool). if t && is_offset step (residuals_for past step samples c.filter pair) c.offset && list_all (has_bits 32) (residuals_for past step samples c.filter pair)
          then option_map (λ k. parameter_bits force pair c + k) (bits_for c.book (c.low - step) c.offset step (residuals_for past step samples c.filter pair)) else None) same

  -- the scan ends behind filter 0
  first_alone : least_from (cost_of force past step false samples) None (choices force past step samples)
      ≡ least_from (cost_of force past step true samples) None (flat_map (λ n. with_books n (middle_for force past step samples n)) (range_with_len 0 1))
  unfolding choices
  first_alone =
      let books : ℕ → List Choice = λ n. with_books n (middle_for force past step samples n) in
      let cost : Choice → Option ℕ = cost_of force past step false samples in
      let rest : List Choice = flat_map books (range_with_len 1 17) in
      let split : least_from cost None (books 0 ++ rest) ≡ least_from cost (least_from cost None (books 0)) rest = least_from-append cost None (books 0) rest in
      let none : least_from cost (least_from cost None (books 0)) rest ≡ least_from cost None (books 0) =
      none_scanned cost (least_from cost None (books 0)) rest
      (along_range (λ c. cost c ≡ None) books 1 17 (λ j le lt. books_along (λ c. cost c ≡ None) j (middle_for force past step samples j) (λ c e. others_none c j le e)))
      in
      let same : least_from cost None (books 0) ≡ least_from (cost_of force past step true samples) None (books 0) =
      same_scanned cost (cost_of force past step true samples) None (books 0)
      (books_along (λ c. cost c ≡ cost_of force past step true samples c) 0 (middle_for force past step samples 0) (λ c e. first_same c e))
      in
      split ∙ none ∙ same ∙ ap (least_from (cost_of force past step true samples) None) (sym (append-nil (books 0)))

  -- what is found among the filters that are looked at is the choice
  pub found_is : (filters : Bool) (best : Option Choice)
      → best ≡ least_from (cost_of force past step true samples) None (flat_map (λ n. with_books n (middle_for force past step samples n)) (range_with_len 0 (if filters then 18 else 1)))
      → unwrap_or best (choice_of 0 0 0 (pos 0)) ≡ chosen force past step filters samples
  unfolding chosen choices
  found_is true best e = ap (λ (o : Option Choice). unwrap_or o (choice_of 0 0 0 (pos 0))) e
  found_is false best e = ap (λ (o : Option Choice). unwrap_or o (choice_of 0 0 0 (pos 0))) (e ∙ sym first_alone)

-- ---- a choice with a cost

bits_there : (o : Option ℕ) → IsSome o → (n : ℕ) × (o ≡ Some n)
bits_there None e = absurd cc
bits_there (Some n) e = (n, refl)

-- its residuals are words
pub words_there : (force : ChannelState) (past : Past) (step : ℕ) (filters : Bool) (samples : List ℤ) (c : Choice) (pair : Pair) → IsSome (cost_of force past step filters samples c) → pair_of force step samples c.filter ≡ Some pair
    → All (FitsSigned w32) (residuals_for past step samples c.filter pair)
words_there force past step filters samples c pair some there =
    let n = bits_there (cost_of force past step filters samples c) some in
    let h = has_cost force past step filters samples c n.0 n.1 in
    let same : h.pair ≡ pair = let both : Some h.pair ≡ Some pair = sym h.there ∙ there in cc in
    words_from (residuals_for past step samples c.filter pair) (ap (λ (q : Pair). list_all (has_bits 32) (residuals_for past step samples c.filter q)) (sym same) ∙ h.costs.words)

-- ---- with more filters

-- what has a cost where fewer filters are looked at costs as much where all are
pub cost_widens : (force : ChannelState) (past : Past) (step : ℕ) (filters : Bool) (samples : List ℤ) (c : Choice) (n : ℕ) → cost_of force past step filters samples c ≡ Some n → cost_of force past step true samples c ≡ Some n
cost_widens force past step filters samples c n e =
    let h = has_cost force past step filters samples c n e in
    let rs : List ℤ = residuals_for past step samples c.filter h.pair in
    let k : Costs force step filters h.pair rs c n = h.costs in
    let p = and_parts ((filters || (c.filter == 0)) && nat_le c.book 3 && nat_le step c.low) (nat_le c.low (most_low c.book)) k.range in
    let q = and_parts ((filters || (c.filter == 0)) && nat_le c.book 3) (nat_le step c.low) p.0 in
    let r = and_parts (filters || (c.filter == 0)) (nat_le c.book 3) q.0 in
    let range : in_range step true c ≡ true = and_from (nat_le c.book 3 && nat_le step c.low) (nat_le c.low (most_low c.book)) (and_from (nat_le c.book 3) (nat_le step c.low) r.1 q.1) p.1 in
    ap (λ (o : Option Pair). option_and_then (λ q. cost_over force step true q (residuals_for past step samples c.filter q) c) o) h.there
    ∙ cost_is force step true h.pair rs c range k.offset k.words
    ∙ ap (λ (o : Option ℕ). option_map (λ m. parameter_bits force h.pair c + m) o) k.taken
    ∙ ap Some (sym k.total)
