-- Filters that are passed over: those that write nothing, and those whose parameters alone take too many bits.
use Rattle.std.proofs.Common.{◌≡◌, ℕ, ◌+◌, ◌-◌, ◌*◌, ◌<◌, ◌≤◌, ℤ, pos, Bool, true, false, List, length, replicate, Option, Some, None, arith, refl, sym, ◌∙◌, ap, subst}
use Rattle.std.specs.Prelude.{◌==◌, ◌&&◌, ◌||◌, IfSome, if◌then◌else◌}
use Rattle.std.specs.List.{list_all, flat_map, range_with_len}
use Rattle.std.specs.Option.{option_map}
use Rattle.std.specs.Ordering.{int_eq}
use Rattle.std.proofs.lemmas.Bool.{eq-eqb, ne_eqb, eqb-true, and_parts, and_from}
use Rattle.std.proofs.lemmas.Bool.Decides.{Decides-int_eq}
use Rattle.mlp_layout.specs.Combined.{group}
use Rattle.mlp_syntax.specs.declared.params.Filter.{Filter}
use Rattle.mlp_syntax.specs.declared.params.ChannelParams.{ChannelParams}
use Rattle.mlp_params.specs.declared.state.ChannelState.{ChannelState}
use Rattle.mlp_params.specs.Applied.{channel_applied}
use Rattle.mlp_params.specs.Filters.{order_of}
use Rattle.mlp_params.specs.Parameters.{channel}
use Rattle.mlp_params.specs.States.{IsChannelState}
use Rattle.mlp_predict.specs.Prediction.{Filters, Past, residuals_of, with_state}
use Rattle.mlp_predict.specs.Filters.{filters_of}
use Rattle.mlp_levinson.specs.Computed.{has_bits, over, lags, computed}
use Rattle.mlp_levinson.specs.Best.{IsComputed}
use Rattle.mlp_levinson.proofs.Bests.{best}
use Rattle.mlp_search.specs.declared.choice.Choice.{Choice}
use Rattle.mlp_search.specs.declared.pair.Pair.{Pair}
use Rattle.mlp_search.specs.Candidates.{alone, in_force, pair_of, past_for, residuals_for}
use Rattle.mlp_search.specs.Given.{fir_stays, fir_given, iir_stays, iir_given, with_zeros, offset_given, codes_alike, all_stays, given}
use Rattle.mlp_search.specs.Cost.{filter_bits, fir_bits, iir_bits, offset_bits, parameter_sum, bits_for, in_range, is_offset, cost_over, cost_of}
use Rattle.mlp_search.specs.Least.{is_better, better, least_from, with_books, middle_for, IsWithinFirst}
use Rattle.mlp_search.proofs.CodeBits.{never_better}
use Rattle.mlp_search.proofs.CostLaws.{parameters_is, offset_fits}
use Rattle.mlp_search.proofs.CandidateLaws.{has_cost}
use Rattle.mlp_search.proofs.ComputedPairs.{computed_number}
use Rattle.mlp_search.proofs.GivenLaws.{pair_there, given_is_pair}
use Rattle.mlp_search.proofs.KeptLaws.{never_again, bounded}
use Rattle.mlp_search.proofs.Scanning.{books_along, kept_scanned, scan_kept}
use Rattle.mlp_search.proofs.SearchLaws.{cost_here, nothing_there}

-- ---- filters that write nothing

module _ (force : ChannelState) (past : Past) (step : ℕ) (samples : List ℤ) (n : ℕ) (pair : Pair) (s : IsChannelState force) (there : pair_of force step samples n ≡ Some pair) (some : 1 ≤ n)
    (fir : fir_stays force n pair ≡ true) (iir : iir_stays force n pair ≡ true) where
  not_first : (n == 0) ≡ false
  not_first = ne_eqb n 0 (λ z. absurd (omega (arith, some, z)))

  -- they are those in force
  same_filters : filters_of pair.fir pair.iir ≡ filters_of force.fir force.iir
  same_filters =
      let c : Choice = record { filter = n; book = force.book; low = force.low; offset = force.offset; bits = 0 } in
      let offset : int_eq force.offset force.offset ≡ true = (Decides-int_eq force.offset force.offset).1 refl in
      let book : (force.book == force.book) ≡ true = eq-eqb force.book force.book refl in
      let low : (force.low == force.low) ≡ true = eq-eqb force.low force.low refl in
      let codes : codes_alike force c ≡ true = and_from (int_eq force.offset force.offset && (force.book == force.book)) (force.low == force.low) (and_from (int_eq force.offset force.offset) (force.book == force.book) offset book) low in
      let all : all_stays force pair c ≡ true = and_from (fir_stays force n pair && iir_stays force n pair) (codes_alike force c) (and_from (fir_stays force n pair) (iir_stays force n pair) fir iir) codes in
      let g : ChannelParams = record { fir = fir_given force n pair; iir = iir_given force n pair; offset = offset_given force force.offset; book = force.book; low = force.low } in
      let none : given force pair c ≡ None = ap (λ (t : Bool). if t then None else Some g) all in
      sym (given_is_pair force step samples c pair s there) ∙ ap (λ (o : Option ChannelParams). filters_of (channel_applied force o).fir (channel_applied force o).iir) none

  no_iir : order_of pair.iir ≡ 0
  no_iir =
      let both : ((order_of pair.iir == 0) && (order_of force.iir == 0)) ≡ true = ap (λ (t : Bool). t || ((order_of pair.iir == 0) && (order_of force.iir == 0))) (sym not_first) ∙ iir in
      eqb-true (order_of pair.iir) 0 (and_parts (order_of pair.iir == 0) (order_of force.iir == 0) both).0

  same_residuals : residuals_for past step samples n pair ≡ residuals_for past step samples 0 (in_force force)
  same_residuals =
      let seen : past_for n pair past ≡ past_for 0 (in_force force) past =
      ap (λ (t : Bool). with_state (replicate (if t then 0 else order_of pair.iir) (pos 0)) past) not_first ∙ ap (λ (k : ℕ). with_state (replicate k (pos 0)) past) no_iir
      in
      ap (λ (f : Filters). residuals_of f (past_for n pair past) step samples) same_filters ∙ ap (λ (p : Past). residuals_of (filters_of force.fir force.iir) p step samples) seen

  same_given : (c : Choice) → c.filter ≡ n → given force pair c ≡ given force (in_force force) (record c { filter = 0 })
  same_given c e =
      let f : fir_stays force c.filter pair ≡ true = ap (λ (k : ℕ). fir_stays force k pair) e ∙ fir in
      let i : iir_stays force c.filter pair ≡ true = ap (λ (k : ℕ). iir_stays force k pair) e ∙ iir in
      let made : Option (Filter 8) → Option (Filter 4) → ChannelParams = λ a b. record { fir = a; iir = b; offset = offset_given force c.offset; book = c.book; low = c.low } in
      ap (λ (t : Bool). if t && iir_stays force c.filter pair && codes_alike force c then None else Some (made (if t then None else Some pair.fir) (iir_given force c.filter pair))) f
      ∙ ap (λ (t : Bool). if true && t && codes_alike force c then None else Some (made None (if t then None else Some (with_zeros pair.iir)))) i

  -- they cost as much
  same_cost : (c : Choice) → c.filter ≡ n → cost_of force past step true samples c ≡ cost_of force past step true samples (record c { filter = 0 })
  same_cost c e =
      let rs : List ℤ = residuals_for past step samples 0 (in_force force) in
      cost_here force past step true samples n pair c there e
      ∙ ap (λ (xs : List ℤ). cost_over force step true pair xs c) same_residuals
      ∙ ap (λ (o : Option ChannelParams). if in_range step true c && is_offset step rs c.offset && list_all (has_bits 32) rs
      then option_map (λ k. length ((group true (channel 0xFF force)).spelling o) + k) (bits_for c.book (c.low - step) c.offset step rs) else None) (same_given c e)
      ∙ sym (cost_here force past step true samples 0 (in_force force) (record c { filter = 0 }) refl refl)

  -- none of their choices is better
  same_kept : (best : Option Choice) (c : Choice) → c.filter ≡ n → IsWithinFirst (cost_of force past step true samples) best → better best c (cost_of force past step true samples c) ≡ best
  same_kept best c e first = pick (cost_of force past step true samples c) refl
    where
      pick : (o : Option ℕ) → cost_of force past step true samples c ≡ o → better best c o ≡ best
      pick None is = refl
      pick (Some k) is = ap (λ (t : Bool). if t then Some (record c { bits = k }) else best) (first (record c { filter = 0 }) k refl (sym (same_cost c e) ∙ is))

  pub nothing_new : (mid : ℤ) (best : Option Choice) → IsWithinFirst (cost_of force past step true samples) best → best ≡ least_from (cost_of force past step true samples) best (with_books n mid)
  nothing_new mid best first =
      sym (kept_scanned (cost_of force past step true samples) best (with_books n mid)
      (books_along (λ c. better best c (cost_of force past step true samples c) ≡ best) n mid (λ c e. same_kept best c e first)))

-- ---- filters whose parameters take too many bits

module _ (force : ChannelState) (past : Past) (step : ℕ) (samples : List ℤ) (n : ℕ) (pair : Pair) (s : IsChannelState force) (there : pair_of force step samples n ≡ Some pair) where
  -- what is written where some filter is
  written : (c : Choice) → c.filter ≡ n → (fir_stays force n pair && iir_stays force n pair) ≡ false → 11 + (fir_bits (fir_given force n pair) + iir_bits (iir_given force n pair)) ≤ parameter_sum force pair c
  written c e some = subst (λ (m : ℕ). 11 + (fir_bits (fir_given force m pair) + iir_bits (iir_given force m pair)) ≤ parameter_sum force pair c) e
      (at (subst (λ (m : ℕ). (fir_stays force m pair && iir_stays force m pair) ≡ false) (sym e) some))
    where
      at : (fir_stays force c.filter pair && iir_stays force c.filter pair) ≡ false → 11 + (fir_bits (fir_given force c.filter pair) + iir_bits (iir_given force c.filter pair)) ≤ parameter_sum force pair c
      at is =
          let none : all_stays force pair c ≡ false = ap (λ (t : Bool). t && codes_alike force c) is in
          let sum : parameter_sum force pair c ≡ 11 + fir_bits (fir_given force c.filter pair) + iir_bits (iir_given force c.filter pair) + offset_bits force c.offset =
          ap (λ (t : Bool). if t then 1 else 11 + fir_bits (fir_given force c.filter pair) + iir_bits (iir_given force c.filter pair) + offset_bits force c.offset) none
          in
          omega (arith, sum)

  -- a choice costs no less than its parameters
  no_less : (c : Choice) (k : ℕ) → c.filter ≡ n → cost_of force past step true samples c ≡ Some k → parameter_sum force pair c ≤ k
  no_less c k e is =
      let h = has_cost force past step true samples c k is in
      let both : Some h.pair ≡ Some pair = sym h.there ∙ ap (pair_of force step samples) e ∙ there in
      let same : h.pair ≡ pair = cc in
      let fits = offset_fits step (residuals_for past step samples c.filter h.pair) c.offset h.costs.offset in
      let sum = parameters_is force h.pair c (pair_there force step samples c.filter h.pair s h.there) fits in
      subst (λ (q : Pair). parameter_sum force q c ≤ k) same (omega (arith, sum, h.costs.total))

  pub too_many : (mid : ℤ) (best : Option Choice) → (fir_stays force n pair && iir_stays force n pair) ≡ false → is_better (11 + (fir_bits (fir_given force n pair) + iir_bits (iir_given force n pair))) best ≡ false
      → best ≡ least_from (cost_of force past step true samples) best (with_books n mid)
  too_many mid best some over =
      sym (kept_scanned (cost_of force past step true samples) best (with_books n mid)
      (books_along (λ c. better best c (cost_of force past step true samples c) ≡ best) n mid
      (λ c e. bounded (cost_of force past step true samples) (11 + (fir_bits (fir_given force n pair) + iir_bits (iir_given force n pair))) best c over
      (λ k is. omega (arith, written c e some, no_less c k e is)))))

-- what costs no more than each choice of filter 0 still does so behind other choices
pub still_within : (cost : Choice → Option ℕ) (best next : Option Choice) (cs : List Choice) → next ≡ least_from cost best cs → IsWithinFirst cost best → IsWithinFirst cost next
still_within cost best next cs e first = λ c n at is. subst (λ (b : Option Choice). is_better n b ≡ false) (sym e) (never_again cost n best cs (first c n at is))

-- ---- computed filters

record Fir (pair : Pair) : Type 0 where
  fir : Filter 8
  is : pair ≡ alone fir
  some : 1 ≤ order_of fir
  wide : 1 ≤ fir.coeff_bits

computed_fir : (rs : List ℤ) (order : ℕ) (pair : Pair) (o : Option (Filter 8)) → 1 ≤ order → IfSome o (IsComputed rs order) → option_map alone o ≡ Some pair → Fir pair
computed_fir rs order pair None some h e = absurd cc
computed_fir rs order pair (Some f) some h e = record {
  fir = f;
  is = let same : alone f ≡ pair = cc in sym same;
  some = omega (arith, h.count, some);
  wide = h.stands_for.width.some;
}

-- the filters of a number from 10 on are a FIR with coefficients
fir_at : (force : ChannelState) (step : ℕ) (samples : List ℤ) (n : ℕ) (pair : Pair) → 10 ≤ n → n ≤ 17 → pair_of force step samples n ≡ Some pair → Fir pair
fir_at force step samples n pair from to there =
    computed_fir (lags (over step samples)) (n - 9) pair (computed step samples (n - 9)) (omega (arith, from)) (best (lags (over step samples)) (n - 9) (omega (arith, to)))
    (sym (computed_number force step samples n from to) ∙ there)

fir_cost : (fir : Filter 8) → 1 ≤ order_of fir → 1 ≤ fir.coeff_bits → 18 ≤ filter_bits fir
fir_cost fir some wide =
    let t : (order_of fir == 0) ≡ false = ne_eqb (order_of fir) 0 (λ z. absurd (omega (arith, some, z))) in
    let is : filter_bits fir ≡ 17 + order_of fir * fir.coeff_bits = ap (λ (b : Bool). if b then 4 else 17 + order_of fir * fir.coeff_bits) t in
    let least : 1 ≤ order_of fir * fir.coeff_bits = product (order_of fir) fir.coeff_bits some wide in
    omega (arith, is, least)
  where
    product : (a b : ℕ) → 1 ≤ a → 1 ≤ b → 1 ≤ a * b
    product a b h k = grind (arith, h, k)

-- no IIR is written, or its end
no_more_iir : (force : ChannelState) (n : ℕ) (fir : Filter 8) → 1 ≤ n → iir_stays force n (alone fir) ≡ false → order_of force.iir ≡ 0 → ⊥
no_more_iir force n fir some is none =
    let first : (n == 0) ≡ false = ne_eqb n 0 (λ z. absurd (omega (arith, some, z))) in
    let t : ((0 == 0) && (order_of force.iir == 0)) ≡ false = ap (λ (t : Bool). t || ((0 == 0) && (order_of force.iir == 0))) (sym first) ∙ is in
    let u : (order_of force.iir == 0) ≡ true = eq-eqb (order_of force.iir) 0 none in
    let both : true ≡ false = sym u ∙ t in
    cc

least_bits : (force : ChannelState) (n m : ℕ) (pair : Pair) → 1 ≤ n → Fir pair → m ≤ 29 → (0 < order_of force.iir → m ≤ 15) → (fir_stays force n pair && iir_stays force n pair) ≡ false
    → m ≤ 11 + (fir_bits (fir_given force n pair) + iir_bits (iir_given force n pair))
least_bits force n m pair some f most less is =
    subst (λ (q : Pair). (fir_stays force n q && iir_stays force n q) ≡ false → m ≤ 11 + (fir_bits (fir_given force n q) + iir_bits (iir_given force n q))) (sym f.is)
    (pick (fir_stays force n (alone f.fir)) (iir_stays force n (alone f.fir)) refl) is
  where
    pick : (a b : Bool) → iir_stays force n (alone f.fir) ≡ b → (a && b) ≡ false → m ≤ 11 + (fir_bits (if a then None else Some f.fir) + iir_bits (if b then None else Some (with_zeros (alone f.fir).iir)))
    pick false b e h = omega (arith, most, fir_cost f.fir f.some f.wide)
    pick true false e h = let is : 0 < order_of force.iir = omega (arith, no_more_iir force n f.fir some e) in omega (arith, less is)
    pick true true e h = absurd cc

-- none of their choices is better than few bits
module _ (force : ChannelState) (past : Past) (step : ℕ) (samples : List ℤ) (s : IsChannelState force) (m : ℕ) (best : Option Choice) (most : m ≤ 29) (less : 0 < order_of force.iir → m ≤ 15)
    (first : IsWithinFirst (cost_of force past step true samples) best) (over : is_better m best ≡ false) where
  computed_kept : (n : ℕ) → 10 ≤ n → n ≤ 17 → best ≡ least_from (cost_of force past step true samples) best (with_books n (middle_for force past step samples n))
  computed_kept n from to = there (pair_of force step samples n) refl
    where
      mid : ℤ
      mid = middle_for force past step samples n

      stays : (pair : Pair) → pair_of force step samples n ≡ Some pair → (t : Bool) → (fir_stays force n pair && iir_stays force n pair) ≡ t → best ≡ least_from (cost_of force past step true samples) best (with_books n mid)
      stays pair is true e =
          let both = and_parts (fir_stays force n pair) (iir_stays force n pair) e in
          nothing_new force past step samples n pair s is (omega (arith, from)) both.0 both.1 mid best first
      stays pair is false e =
          let few = least_bits force n m pair (omega (arith, from)) (fir_at force step samples n pair from to is) most less e in
          too_many force past step samples n pair s is mid best e (never_better m (11 + (fir_bits (fir_given force n pair) + iir_bits (iir_given force n pair))) best few over)

      there : (o : Option Pair) → pair_of force step samples n ≡ o → best ≡ least_from (cost_of force past step true samples) best (with_books n mid)
      there None e = sym (nothing_there force past step true samples n mid best e)
      there (Some pair) e = stays pair e (fir_stays force n pair && iir_stays force n pair) refl

  pub all_computed_kept : best ≡ least_from (cost_of force past step true samples) best (flat_map (λ n. with_books n (middle_for force past step samples n)) (range_with_len 10 8))
  all_computed_kept = scan_kept (cost_of force past step true samples) (λ n. with_books n (middle_for force past step samples n)) best 10 8 (λ n from to. computed_kept n from (omega (arith, to)))
