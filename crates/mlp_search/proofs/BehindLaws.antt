-- Behind what a choice gives its filters are in force, and it can be written.
use Rattle.std.proofs.Common.{◌≡◌, ℕ, zero, suc, ◌+◌, ◌<◌, ◌≤◌, ℤ, pos, Bool, true, false, cond, List, replicate, Option, Some, None, arith, refl, sym, ◌∙◌, ap, subst, inl, inr}
use Rattle.std.specs.Prelude.{IsTrue, ◌==◌, ◌||◌, ◌&&◌, nat_le, unwrap_or, if◌then◌else◌}
use Rattle.std.specs.Ordering.{int_eq}
use Rattle.std.specs.Cmp.Lexicographic.{pointwise}
use Rattle.std.proofs.lemmas.Bool.{le-leb, eqb-true, and_parts, or_cases, or_right}
use Rattle.std.proofs.lemmas.Bool.Decides.{Decides-int_eq}
use Rattle.std.proofs.lemmas.Slice.Eq.{slice_eq-Decides}
use Rattle.mlp_syntax.specs.declared.params.Filter.{Filter}
use Rattle.mlp_syntax.specs.declared.params.ChannelParams.{ChannelParams}
use Rattle.mlp_layout.specs.Layout.{Layout, number_of, ruled, tested, seen, part, made}
use Rattle.mlp_layout.specs.Combined.{flag, signed_of, chosen, present, group}
use Rattle.mlp_layout.specs.Allowed.{Allowed}
use Rattle.mlp_params.specs.declared.state.ChannelState.{ChannelState}
use Rattle.mlp_params.specs.Filters.{order_of, filter}
use Rattle.mlp_params.specs.Parameters.{one_precision, channel, filters_tested}
use Rattle.mlp_params.specs.States.{IsChannelState}
use Rattle.mlp_params.specs.InForce.{stateless}
use Rattle.mlp_params.specs.Applied.{channel_applied}
use Rattle.mlp_predict.specs.Filters.{filters_of}
use Rattle.std.specs.Option.{option_map}
use Rattle.mlp_search.specs.declared.pair.Pair.{Pair}
use Rattle.mlp_search.specs.declared.choice.Choice.{Choice}
use Rattle.mlp_search.specs.Candidates.{pair_of}
use Rattle.mlp_search.specs.Given.{IsPair, same_filter, fir_stays, iir_stays, fir_given, iir_given, with_zeros, offset_given, codes_alike, all_stays, given}
use Rattle.mlp_search.specs.Cost.{most_low}
use Rattle.mlp_search.proofs.FilterLaws.{no_state, zeros_allowed, field_meets, absent_is_absent}

-- ---- filters that stay

filter_of : ℕ → ℕ → ℕ → List ℤ → Filter 8
filter_of shift bits coeff_shift cs = record { shift = shift; coeff_bits = bits; coeff_shift = coeff_shift; coeffs = record { items = cs }; state = None }

whole : (f : Filter 8) → f.state ≡ None → f ≡ filter_of f.shift f.coeff_bits f.coeff_shift f.coeffs.items
unfolding filter_of
whole f e = ap (λ o. record f { state = o }) e

-- two filters without states that are found to be the same are
same_is : (a b : Filter 8) → a.state ≡ None → b.state ≡ None → same_filter a b ≡ true → a ≡ b
unfolding filter_of
same_is a b x y e =
    let p = and_parts ((a.shift == b.shift) && (a.coeff_bits == b.coeff_bits) && (a.coeff_shift == b.coeff_shift)) (pointwise int_eq a.coeffs.items b.coeffs.items) e in
    let q = and_parts ((a.shift == b.shift) && (a.coeff_bits == b.coeff_bits)) (a.coeff_shift == b.coeff_shift) p.0 in
    let r = and_parts (a.shift == b.shift) (a.coeff_bits == b.coeff_bits) q.0 in
    let s = eqb-true a.shift b.shift r.0 in
    let w = eqb-true a.coeff_bits b.coeff_bits r.1 in
    let k = eqb-true a.coeff_shift b.coeff_shift q.1 in
    let cs = (slice_eq-Decides Decides-int_eq a.coeffs.items b.coeffs.items (pointwise int_eq a.coeffs.items b.coeffs.items) refl).0 p.1 in
    whole a x
    ∙ ap (λ (n : ℕ). filter_of n a.coeff_bits a.coeff_shift a.coeffs.items) s
    ∙ ap (λ (n : ℕ). filter_of b.shift n a.coeff_shift a.coeffs.items) w
    ∙ ap (λ (n : ℕ). filter_of b.shift b.coeff_bits n a.coeffs.items) k
    ∙ ap (λ (zs : List ℤ). filter_of b.shift b.coeff_bits b.coeff_shift zs) cs
    ∙ sym (whole b y)

none_allowed : {A : Type 0} (l : Layout A) → Allowed (group true l) None
unfolding group chosen part present made flag seen number_of
none_allowed l = record { fits = ((omega arith, refl), refl); meets = (tt, tt) }

some_allowed : {A : Type 0} (l : Layout A) (x : A) → Allowed l x → Allowed (group true l) (Some x)
unfolding group chosen part present made flag seen number_of
some_allowed l x a = record { fits = ((omega arith, refl), (a.fits, refl)); meets = (tt, a.meets) }

offset_allowed : (force : ChannelState) (offset : ℤ) → (signed_of 15).Fits offset → Allowed (group true (signed_of 15)) (offset_given force offset)
offset_allowed force offset fits = pick (int_eq offset force.offset)
  where
    pick : (t : Bool) → Allowed (group true (signed_of 15)) (if t then None else Some offset)
    pick true = none_allowed (signed_of 15)
    pick false = some_allowed (signed_of 15) offset (record { fits = fits; meets = field_meets 15 offset })

-- two filters that have at most 8 coefficients, and one shift
abbrev Good : Filter 8 → Filter 4 → Type 0
Good fir iir = IsTrue (nat_le (order_of fir + order_of iir) 8) × IsTrue (one_precision fir iir)

good_zeros : (fir : Filter 8) (f : Filter 4) → Good fir f → Good fir (with_zeros f)
good_zeros fir f h = pick (order_of f == 0)
  where
    pick : (t : Bool) → Good fir (if t then f else record f { state = Some (record { bits = 0; shift = 0; values = record { items = replicate (order_of f) (pos 0) } }) })
    pick true = h
    pick false = h

low_rule : (book low : ℕ) → low ≤ most_low book → cond {A = Option ℕ} ((book == 0) || nat_le low 24) None (Some 0) ≡ None
low_rule zero low le = refl
low_rule (suc book) low le = let t : nat_le low 24 ≡ true = le-leb low 24 le in ap (λ (b : Bool). cond {A = Option ℕ} b None (Some 0)) (or_right (suc book == 0) (nat_le low 24) t)

channel_allowed : (force : ChannelState) (g : ChannelParams) → Allowed (group true (filter 8 false)) g.fir → Allowed (group true (filter 4 true)) g.iir → Good (unwrap_or g.fir force.fir) (unwrap_or g.iir force.iir)
    → Allowed (group true (signed_of 15)) g.offset → g.book ≤ 3 → g.low ≤ most_low g.book → Allowed (channel 0xFF force) g
unfolding channel part filters_tested tested ruled number_of made
channel_allowed force g fir iir good offset book low = record {
  fits = (fir.fits, (iir.fits, (offset.fits, (omega (arith, book), (omega (arith, low, most_of g.book), refl)))));
  meets = (fir.meets, (iir.meets, (good.0, (good.1, (offset.meets, (tt, ((tt, low_rule g.book g.low low), tt)))))));
}
  where
    most_of : (b : ℕ) → most_low b < 32
    most_of zero = omega arith
    most_of (suc b) = omega arith

module _ (force : ChannelState) (step : ℕ) (samples : List ℤ) (n : ℕ) (pair : Pair) (s : IsChannelState force) (p : IsPair pair) (there : pair_of force step samples n ≡ Some pair) where
  kept : n ≡ 0 → pair ≡ record { fir = force.fir; iir = force.iir }
  kept e = let at : pair_of force step samples 0 ≡ Some pair = ap (pair_of force step samples) (sym e) ∙ there in cc

  fir_same : fir_stays force n pair ≡ true → force.fir ≡ pair.fir
  fir_same e = elim (or_cases (n == 0) (same_filter pair.fir force.fir) e) [
    | inl z ↦ sym (ap (λ (q : Pair). q.fir) (kept (eqb-true n 0 z)))
    | inr same ↦ sym (same_is pair.fir force.fir (no_state 8 pair.fir p.fir) (no_state 8 force.fir s.fir) same)
  ]

  -- the FIR in force behind it
  pub fir_behind : unwrap_or (fir_given force n pair) force.fir ≡ pair.fir
  fir_behind = pick (fir_stays force n pair) refl
    where
      pick : (t : Bool) → fir_stays force n pair ≡ t → unwrap_or (if t then None else Some pair.fir) force.fir ≡ pair.fir
      pick false e = refl
      pick true e = fir_same e

  iir_same : iir_stays force n pair ≡ true → force.iir ≡ pair.iir
  iir_same e = elim (or_cases (n == 0) ((order_of pair.iir == 0) && (order_of force.iir == 0)) e) [
    | inl z ↦ sym (ap (λ (q : Pair). q.iir) (kept (eqb-true n 0 z)))
    | inr both ↦
        let q = and_parts (order_of pair.iir == 0) (order_of force.iir == 0) both in
        absent_is_absent 4 false force.iir s.iir q.1 ∙ sym (absent_is_absent 4 false pair.iir p.iir q.0)
  ]

  -- the IIR in force behind it, but for its state
  pub iir_behind : (P : Filter 4 → Type 0) → P pair.iir → P (with_zeros pair.iir) → P (unwrap_or (iir_given force n pair) force.iir)
  iir_behind P plain zeros = pick (iir_stays force n pair) refl
    where
      pick : (t : Bool) → iir_stays force n pair ≡ t → P (unwrap_or (if t then None else Some (with_zeros pair.iir)) force.iir)
      pick true e = subst P (sym (iir_same e)) plain
      pick false e = zeros

  -- ---- what is given can be written

  rules_hold : (c : Choice) → c.filter ≡ n → IsTrue (nat_le (order_of (unwrap_or (fir_given force c.filter pair) force.fir) + order_of (unwrap_or (iir_given force c.filter pair) force.iir)) 8)
      × IsTrue (one_precision (unwrap_or (fir_given force c.filter pair) force.fir) (unwrap_or (iir_given force c.filter pair) force.iir))
  rules_hold c e =
      let fir : unwrap_or (fir_given force c.filter pair) force.fir ≡ pair.fir = ap (λ (k : ℕ). unwrap_or (fir_given force k pair) force.fir) e ∙ fir_behind in
      let plain : Good pair.fir pair.iir = (le-leb (order_of pair.fir + order_of pair.iir) 8 p.sum, p.precision) in
      let zeros : Good pair.fir (with_zeros pair.iir) = good_zeros pair.fir pair.iir plain in
      let behind : Good pair.fir (unwrap_or (iir_given force n pair) force.iir) = iir_behind (λ (i : Filter 4). Good pair.fir i) plain zeros in
      let moved : Good pair.fir (unwrap_or (iir_given force c.filter pair) force.iir) = subst (λ (k : ℕ). Good pair.fir (unwrap_or (iir_given force k pair) force.iir)) (sym e) behind in
      subst (λ (f : Filter 8). Good f (unwrap_or (iir_given force c.filter pair) force.iir)) (sym fir) moved

  fir_allowed : Allowed (group true (filter 8 false)) (fir_given force n pair)
  fir_allowed = pick (fir_stays force n pair)
    where
      pick : (t : Bool) → Allowed (group true (filter 8 false)) (if t then None else Some pair.fir)
      pick true = none_allowed (filter 8 false)
      pick false = some_allowed (filter 8 false) pair.fir p.fir

  iir_allowed : Allowed (group true (filter 4 true)) (iir_given force n pair)
  iir_allowed = pick (iir_stays force n pair)
    where
      pick : (t : Bool) → Allowed (group true (filter 4 true)) (if t then None else Some (with_zeros pair.iir))
      pick true = none_allowed (filter 4 true)
      pick false = some_allowed (filter 4 true) (with_zeros pair.iir) (zeros_allowed pair.iir p.iir)

  -- what a candidate gives is allowed
  pub given_allowed : (c : Choice) → c.filter ≡ n → c.book ≤ 3 → c.low ≤ most_low c.book → (signed_of 15).Fits c.offset → Allowed (group true (channel 0xFF force)) (given force pair c)
  given_allowed c e book low offset = pick (all_stays force pair c)
    where
      pick : (t : Bool)
          → Allowed (group true (channel 0xFF force)) (if t then None else Some (record { fir = fir_given force c.filter pair; iir = iir_given force c.filter pair; offset = offset_given force c.offset; book = c.book; low = c.low }))
      pick true = none_allowed (channel 0xFF force)
      pick false =
          some_allowed (channel 0xFF force) (record { fir = fir_given force c.filter pair; iir = iir_given force c.filter pair; offset = offset_given force c.offset; book = c.book; low = c.low })
          (channel_allowed force (record { fir = fir_given force c.filter pair; iir = iir_given force c.filter pair; offset = offset_given force c.offset; book = c.book; low = c.low })
          (subst (λ (k : ℕ). Allowed (group true (filter 8 false)) (fir_given force k pair)) (sym e) fir_allowed) (subst (λ (k : ℕ). Allowed (group true (filter 4 true)) (iir_given force k pair)) (sym e) iir_allowed) (rules_hold c e)
          (offset_allowed force c.offset offset) book low)

  -- ---- the filters in force behind it are those of the number

  fir_applied : (P : Filter 8 → Type 0) → P pair.fir → P (stateless pair.fir) → P (unwrap_or (option_map stateless (fir_given force n pair)) force.fir)
  fir_applied P plain given = pick (fir_stays force n pair) refl
    where
      pick : (t : Bool) → fir_stays force n pair ≡ t → P (unwrap_or (option_map stateless (if t then None else Some pair.fir)) force.fir)
      pick true e = subst P (sym (fir_same e)) plain
      pick false e = given

  iir_applied : (P : Filter 4 → Type 0) → P pair.iir → P (stateless (with_zeros pair.iir)) → P (unwrap_or (option_map stateless (iir_given force n pair)) force.iir)
  iir_applied P plain given = pick (iir_stays force n pair) refl
    where
      pick : (t : Bool) → iir_stays force n pair ≡ t → P (unwrap_or (option_map stateless (if t then None else Some (with_zeros pair.iir))) force.iir)
      pick true e = subst P (sym (iir_same e)) plain
      pick false e = given

  zeros_same : filters_of pair.fir (stateless (with_zeros pair.iir)) ≡ filters_of pair.fir pair.iir
  zeros_same = pick (order_of pair.iir == 0)
    where
      pick : (t : Bool) → filters_of pair.fir (stateless (if t then pair.iir else record (pair.iir) { state = Some (record { bits = 0; shift = 0; values = record { items = replicate (order_of pair.iir) (pos 0) } }) }))
          ≡ filters_of pair.fir pair.iir
      pick true = refl
      pick false = refl

  pub filters_behind : (c : Choice) → c.filter ≡ n → filters_of (channel_applied force (given force pair c)).fir (channel_applied force (given force pair c)).iir ≡ filters_of pair.fir pair.iir
  filters_behind c e = pick (all_stays force pair c) refl
    where
      pick : (t : Bool) → all_stays force pair c ≡ t
          → filters_of (channel_applied force (if t then None else Some (record { fir = fir_given force c.filter pair; iir = iir_given force c.filter pair; offset = offset_given force c.offset; book = c.book; low = c.low }))).fir
          (channel_applied force (if t then None else Some (record { fir = fir_given force c.filter pair; iir = iir_given force c.filter pair; offset = offset_given force c.offset; book = c.book; low = c.low }))).iir
          ≡ filters_of pair.fir pair.iir
      pick true t =
          let both = and_parts (fir_stays force c.filter pair && iir_stays force c.filter pair) (codes_alike force c) t in
          let each = and_parts (fir_stays force c.filter pair) (iir_stays force c.filter pair) both.0 in
          let f = fir_same (ap (λ (k : ℕ). fir_stays force k pair) (sym e) ∙ each.0) in
          let i = iir_same (ap (λ (k : ℕ). iir_stays force k pair) (sym e) ∙ each.1) in
          ap (λ (x : Filter 8). filters_of x force.iir) f ∙ ap (λ (x : Filter 4). filters_of pair.fir x) i
      pick false t =
          let i = iir_applied (λ (x : Filter 4). filters_of pair.fir x ≡ filters_of pair.fir pair.iir) refl zeros_same in
          let iir : Filter 4 = unwrap_or (option_map stateless (iir_given force n pair)) force.iir in
          let both = fir_applied (λ (x : Filter 8). filters_of x iir ≡ filters_of pair.fir pair.iir) i i in
          subst (λ (k : ℕ). filters_of (unwrap_or (option_map stateless (fir_given force k pair)) force.fir) (unwrap_or (option_map stateless (iir_given force k pair)) force.iir) ≡ filters_of pair.fir pair.iir) (sym e) both
