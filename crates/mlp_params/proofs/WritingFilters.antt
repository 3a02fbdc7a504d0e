-- The text of a filter.
use Rattle.std.proofs.Common.{◌≡◌, ◌≢◌, ℕ, ◌+◌, ◌<◌, ◌≤◌, ◌^◌, eqb, Bool, true, false, List, [], ◌∷◌, ◌++◌, refl, sym, ap, subst, ◌∙◌, append_assoc, arith}
use Rattle.std.proofs.lemmas.List.{append-nil}
use Rattle.std.proofs.lemmas.Bool.{ne_eqb, eq-eqb, leb-true}
use Rattle.std.specs.Prelude.{is_some}
use Rattle.mlp_syntax.specs.declared.params.Filter.{Filter}
use Rattle.mlp_bits.specs.Bits.{bits}
use Rattle.mlp_layout.specs.Layout.{Layout, number_of, ruled, part, made}
use Rattle.mlp_layout.specs.Combined.{flag, signed_of, chosen, present, group, times}
use Rattle.mlp_params.specs.Filters.{order_of, absent, widths, filter_state, filter, behind_order}
use Rattle.mlp_layout.specs.Allowed.{Allowed}
use Rattle.mlp_layout.proofs.RuleReading.{rule_holds}
use Rattle.mlp_layout.proofs.WritingGroups.{fields}

module _ {A : Type 0} (l m : Layout A) (x : A) where
  pub first_spelling : (b : Bool) → b ≡ true → l.spelling x ≡ (chosen b l m).spelling x
  unfolding chosen
  first_spelling b e = let P : Bool → Type 0 = λ v. l.spelling x ≡ (chosen v l m).spelling x in subst P (sym e) refl

  pub second_spelling : (b : Bool) → b ≡ false → m.spelling x ≡ (chosen b l m).spelling x
  unfolding chosen
  second_spelling b e = let P : Bool → Type 0 = λ v. m.spelling x ≡ (chosen v l m).spelling x in subst P (sym e) refl

  pub second_fits : (b : Bool) → b ≡ false → (chosen b l m).Fits x → m.Fits x
  unfolding chosen
  second_fits b e h = let P : Bool → Type 0 = λ v. (chosen v l m).Fits x in subst P e h

  pub second_meets : (b : Bool) → b ≡ false → (chosen b l m).Meets x → m.Meets x
  unfolding chosen
  second_meets b e h = let P : Bool → Type 0 = λ v. (chosen v l m).Meets x in subst P e h

module _ (n : ℕ) (has_state : Bool) (f : Filter n) where
  pub absent_is : order_of f ≡ 0 → bits 4 0 ≡ (filter n has_state).spelling f
  unfolding filter part ruled number_of made
  absent_is e =
      let nothing = first_spelling (made absent) (behind_order n has_state (order_of f)) f (eqb (order_of f) 0) (eq-eqb (order_of f) 0 e) in
      sym (append-nil (bits 4 0)) ∙ ap (λ (k : ℕ). bits 4 k ++ []) (sym e) ∙ ap (λ (t : List Bool). bits 4 (order_of f) ++ t) nothing

  body : List Bool
  body = (times (order_of f) (signed_of f.coeff_bits)).spelling f.coeffs.items ++ (group true (filter_state (order_of f))).spelling f.state

  behind_is : fields ((f.shift, 4) ∷ (f.coeff_bits, 5) ∷ (f.coeff_shift, 3) ∷ []) body ≡ (behind_order n has_state (order_of f)).spelling f
  unfolding part ruled number_of made widths group chosen body
  behind_is =
      let values = (times (order_of f) (signed_of f.coeff_bits)).spelling f.coeffs.items in
      let state = (present (is_some f.state) (filter_state (order_of f))).spelling f.state in
      let inner : values ++ (flag.spelling (is_some f.state) ++ state) ≡ values ++ (flag.spelling (is_some f.state) ++ (state ++ [])) = ap (λ (t : List Bool). values ++ (flag.spelling (is_some f.state) ++ t)) (sym (append-nil state)) in
      let rest = values ++ (flag.spelling (is_some f.state) ++ (state ++ [])) in
      let one : bits 5 f.coeff_bits ++ (bits 3 f.coeff_shift ++ rest) ≡ (bits 5 f.coeff_bits ++ (bits 3 f.coeff_shift ++ [])) ++ rest = simp (append_assoc, append-nil) in
      ap (λ (t : List Bool). bits 4 f.shift ++ (bits 5 f.coeff_bits ++ (bits 3 f.coeff_shift ++ t))) inner ∙ ap (λ (t : List Bool). bits 4 f.shift ++ t) one

  pub filter_text : order_of f ≢ 0 → fields ((order_of f, 4) ∷ (f.shift, 4) ∷ (f.coeff_bits, 5) ∷ (f.coeff_shift, 3) ∷ [])
      ((times (order_of f) (signed_of f.coeff_bits)).spelling f.coeffs.items ++ (group true (filter_state (order_of f))).spelling f.state) ≡ (filter n has_state).spelling f
  unfolding filter part ruled number_of body
  filter_text some =
      ap (λ (t : List Bool). bits 4 (order_of f) ++ t) (behind_is ∙ second_spelling (made absent) (behind_order n has_state (order_of f)) f (eqb (order_of f) 0) (ne_eqb (order_of f) 0 some))

  pub order_fits : Allowed (filter n has_state) f → order_of f < 2 ^ 4
  unfolding filter part ruled number_of
  order_fits a = a.fits.0

  -- what the parts of a filter with coefficients fit
  pub record FilterFits : Type 0 where
    pub shift : f.shift < 2 ^ 4
    pub coeff_bits : f.coeff_bits < 2 ^ 5
    pub coeff_shift : f.coeff_shift < 2 ^ 3
    pub width : f.coeff_bits ≤ 16
    pub values : (times (order_of f) (signed_of f.coeff_bits)).Fits f.coeffs.items
    pub state : (group true (filter_state (order_of f))).Fits f.state

  behind_fits : Allowed (behind_order n has_state (order_of f)) f → FilterFits
  unfolding part ruled number_of widths group chosen
  behind_fits a =
      let h = a.fits in
      let both : f.coeff_bits + f.coeff_shift ≤ 16 = leb-true _ 16 (rule_holds _ 0 a.meets.1.0.1) in
      record { shift = h.0; coeff_bits = h.1.0.0; coeff_shift = h.1.0.1.0; width = omega (arith, both); values = h.1.1.0; state = (h.1.1.1.0, h.1.1.1.1.0) }

  pub filter_fits : order_of f ≢ 0 → Allowed (filter n has_state) f → FilterFits
  unfolding filter part
  filter_fits some a =
      let none = ne_eqb (order_of f) 0 some in
      behind_fits (record {
        fits = second_fits (made absent) (behind_order n has_state (order_of f)) f (eqb (order_of f) 0) none a.fits.1;
        meets = second_meets (made absent) (behind_order n has_state (order_of f)) f (eqb (order_of f) 0) none a.meets.1;
      })
