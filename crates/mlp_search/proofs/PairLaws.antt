-- The filters of each number can be written and used.
use Rattle.std.proofs.Common.{◌≡◌, ℕ, zero, suc, ◌-◌, ◌<◌, ◌≤◌, ℤ, pos, neg_ℤ, Bool, true, false, List, [], ◌∷◌, Option, Some, None, arith, refl, sym, ◌∙◌, ap, subst}
use Rattle.std.specs.Prelude.{All, IfSome, IsTrue, ◌==◌, ◌||◌, nat_le, slice_get, if◌then◌else◌}
use Rattle.std.specs.Option.{option_map}
use Rattle.std.proofs.lemmas.Int.{ints}
use Rattle.std.proofs.lemmas.Bool.{leb-true, leb-false}
use Rattle.std.proofs.lemmas.List.Elements.{All-cons}
use Rattle.mlp_syntax.specs.declared.params.Filter.{Filter}
use Rattle.mlp_layout.specs.Allowed.{Allowed}
use Rattle.mlp_params.specs.declared.state.ChannelState.{ChannelState}
use Rattle.mlp_params.specs.Filters.{order_of, absent, filter}
use Rattle.mlp_params.specs.States.{IsChannelState}
use Rattle.mlp_levinson.specs.Computed.{over, lags, computed}
use Rattle.mlp_levinson.specs.Best.{HasBits, IsComputed}
use Rattle.mlp_levinson.proofs.Bests.{best}
use Rattle.mlp_search.specs.Candidates.{filter_with, alone, table, in_force, pair_of}
use Rattle.mlp_search.specs.Given.{IsPair}
use Rattle.mlp_search.proofs.FilterLaws.{plain_allowed}
use Rattle.mlp_params.proofs.LawfulStates.{absent_allowed}

-- ---- the table

abbrev Fir : ℕ → ℕ → List ℤ → Type 0
Fir shift w cs = Allowed (filter 8 false) (filter_with shift w cs)

any_precision : (n : ℕ) (b : Bool) → IsTrue ((n == 0) || (0 == 0) || b)
any_precision n b = pick (n == 0)
  where
    pick : (t : Bool) → IsTrue (t || (0 == 0) || b)
    pick true = refl
    pick false = refl

-- a FIR alone
pub alone_is : (fir : Filter 8) → Allowed (filter 8 false) fir → order_of fir ≤ 8 → IsPair (alone fir)
alone_is fir a le = record { fir = a; iir = absent_allowed 4; sum = omega (arith, le); precision = any_precision (order_of fir) (fir.shift == 0) }

none_has : (w : ℕ) → All (HasBits w) []
none_has w = λ i d l. absurd (omega arith)

one_has : (w : ℕ) (a : ℤ) → HasBits w a → All (HasBits w) (a ∷ [])
one_has w a h = All-cons (HasBits w) a [] h (none_has w)

two_have : (w : ℕ) (a b : ℤ) → HasBits w a → HasBits w b → All (HasBits w) (a ∷ b ∷ [])
two_have w a b h k = All-cons (HasBits w) a (b ∷ []) h (one_has w b k)

three_have : (w : ℕ) (a b c : ℤ) → HasBits w a → HasBits w b → HasBits w c → All (HasBits w) (a ∷ b ∷ c ∷ [])
three_have w a b c h k l = All-cons (HasBits w) a (b ∷ c ∷ []) h (two_have w b c k l)

fir_1 : Fir 0 2 (pos 1 ∷ [])
fir_1 = plain_allowed 8 0 2 (pos 1 ∷ []) (omega arith) (omega arith) (omega arith) (omega arith) (omega arith) (omega arith) (one_has 2 (pos 1) (record { low = omega (arith, ints); high = omega (arith, ints) }))

fir_2 : Fir 0 3 (pos 2 ∷ neg_ℤ (pos 1) ∷ [])
fir_2 = plain_allowed 8 0 3 (pos 2 ∷ neg_ℤ (pos 1) ∷ []) (omega arith) (omega arith) (omega arith) (omega arith) (omega arith) (omega arith)
    (two_have 3 (pos 2) (neg_ℤ (pos 1)) (record { low = omega (arith, ints); high = omega (arith, ints) }) (record { low = omega (arith, ints); high = omega (arith, ints) }))

fir_3 : Fir 0 3 (pos 3 ∷ neg_ℤ (pos 3) ∷ pos 1 ∷ [])
fir_3 = plain_allowed 8 0 3 (pos 3 ∷ neg_ℤ (pos 3) ∷ pos 1 ∷ []) (omega arith) (omega arith) (omega arith) (omega arith) (omega arith) (omega arith)
    (three_have 3 (pos 3) (neg_ℤ (pos 3)) (pos 1) (record { low = omega (arith, ints); high = omega (arith, ints) })
    (record { low = omega (arith, ints); high = omega (arith, ints) }) (record { low = omega (arith, ints); high = omega (arith, ints) }))

fir_4 : Fir 0 4 (pos 4 ∷ neg_ℤ (pos 6) ∷ pos 4 ∷ neg_ℤ (pos 1) ∷ [])
fir_4 = plain_allowed 8 0 4 (pos 4 ∷ neg_ℤ (pos 6) ∷ pos 4 ∷ neg_ℤ (pos 1) ∷ []) (omega arith) (omega arith) (omega arith) (omega arith) (omega arith) (omega arith)
    (All-cons (HasBits 4) (pos 4) (neg_ℤ (pos 6) ∷ pos 4 ∷ neg_ℤ (pos 1) ∷ []) (record { low = omega (arith, ints); high = omega (arith, ints) })
    (three_have 4 (neg_ℤ (pos 6)) (pos 4) (neg_ℤ (pos 1)) (record { low = omega (arith, ints); high = omega (arith, ints) })
    (record { low = omega (arith, ints); high = omega (arith, ints) }) (record { low = omega (arith, ints); high = omega (arith, ints) })))

fir_5 : Fir 3 4 (pos 7 ∷ [])
fir_5 = plain_allowed 8 3 4 (pos 7 ∷ []) (omega arith) (omega arith) (omega arith) (omega arith) (omega arith) (omega arith) (one_has 4 (pos 7) (record { low = omega (arith, ints); high = omega (arith, ints) }))

fir_6 : Fir 3 5 (pos 15 ∷ neg_ℤ (pos 7) ∷ [])
fir_6 = plain_allowed 8 3 5 (pos 15 ∷ neg_ℤ (pos 7) ∷ []) (omega arith) (omega arith) (omega arith) (omega arith) (omega arith) (omega arith)
    (two_have 5 (pos 15) (neg_ℤ (pos 7)) (record { low = omega (arith, ints); high = omega (arith, ints) }) (record { low = omega (arith, ints); high = omega (arith, ints) }))

fir_7 : Fir 2 4 (pos 4 ∷ [])
fir_7 = plain_allowed 8 2 4 (pos 4 ∷ []) (omega arith) (omega arith) (omega arith) (omega arith) (omega arith) (omega arith) (one_has 4 (pos 4) (record { low = omega (arith, ints); high = omega (arith, ints) }))

fir_8 : Fir 2 5 (pos 8 ∷ neg_ℤ (pos 4) ∷ [])
fir_8 = plain_allowed 8 2 5 (pos 8 ∷ neg_ℤ (pos 4) ∷ []) (omega arith) (omega arith) (omega arith) (omega arith) (omega arith) (omega arith)
    (two_have 5 (pos 8) (neg_ℤ (pos 4)) (record { low = omega (arith, ints); high = omega (arith, ints) }) (record { low = omega (arith, ints); high = omega (arith, ints) }))

half : Allowed (filter 4 false) (filter_with 2 2 (neg_ℤ (pos 2) ∷ []))
half = plain_allowed 4 2 2 (neg_ℤ (pos 2) ∷ []) (omega arith) (omega arith) (omega arith) (omega arith) (omega arith) (omega arith) (one_has 2 (neg_ℤ (pos 2)) (record { low = omega (arith, ints); high = omega (arith, ints) }))

table_is : (i : ℕ) → IfSome (slice_get table i) IsPair
table_is zero = alone_is absent (absent_allowed 8) (omega arith)
table_is (suc zero) = alone_is (filter_with 0 2 (pos 1 ∷ [])) fir_1 (omega arith)
table_is (suc (suc zero)) = alone_is (filter_with 0 3 (pos 2 ∷ neg_ℤ (pos 1) ∷ [])) fir_2 (omega arith)
table_is (suc (suc (suc zero))) = alone_is (filter_with 0 3 (pos 3 ∷ neg_ℤ (pos 3) ∷ pos 1 ∷ [])) fir_3 (omega arith)
table_is (suc (suc (suc (suc zero)))) = alone_is (filter_with 0 4 (pos 4 ∷ neg_ℤ (pos 6) ∷ pos 4 ∷ neg_ℤ (pos 1) ∷ [])) fir_4 (omega arith)
table_is (suc (suc (suc (suc (suc zero))))) = alone_is (filter_with 3 4 (pos 7 ∷ [])) fir_5 (omega arith)
table_is (suc (suc (suc (suc (suc (suc zero)))))) = alone_is (filter_with 3 5 (pos 15 ∷ neg_ℤ (pos 7) ∷ [])) fir_6 (omega arith)
table_is (suc (suc (suc (suc (suc (suc (suc zero))))))) = record { fir = fir_7; iir = half; sum = omega arith; precision = refl }
table_is (suc (suc (suc (suc (suc (suc (suc (suc zero)))))))) = record { fir = fir_8; iir = half; sum = omega arith; precision = refl }
table_is (suc (suc (suc (suc (suc (suc (suc (suc (suc i))))))))) = tt

-- ---- computed filters

computed_fir : (order : ℕ) (rs : List ℤ) (f : Filter 8) → 0 < order → order ≤ 8 → IsComputed rs order f → Allowed (filter 8 false) f
computed_fir order rs f some most is =
    let s = is.stands_for in
    let width = s.width in
    let whole : f ≡ filter_with f.shift f.coeff_bits f.coeffs.items = same f s.unshifted s.stateless in
    let wide : f.coeff_bits ≤ 16 = width.least 16 (omega arith) (subst (λ (cs : List ℤ). All (HasBits 16) cs) (sym s.coefficients) s.shift.fits) in
    subst (λ (g : Filter 8). Allowed (filter 8 false) g) (sym whole)
    (plain_allowed 8 f.shift f.coeff_bits f.coeffs.items (omega arith) (omega (arith, is.count, some)) (omega (arith, is.count, most)) (omega (arith, s.shift.most)) (omega (arith, width.some)) wide width.holds)
  where
    same : (g : Filter 8) → g.coeff_shift ≡ 0 → g.state ≡ None → g ≡ filter_with g.shift g.coeff_bits g.coeffs.items
    same g e k = ap (λ (n : ℕ). record g { coeff_shift = n }) e ∙ ap (λ o. record g { coeff_shift = 0; state = o }) k

computed_is : (order : ℕ) (rs : List ℤ) (o : Option (Filter 8)) → 0 < order → order ≤ 8 → IfSome o (IsComputed rs order) → IfSome (option_map alone o) IsPair
computed_is order rs None some most h = tt
computed_is order rs (Some f) some most h = alone_is f (computed_fir order rs f some most h) (omega (arith, h.count, most))

in_force_is : (force : ChannelState) → IsChannelState force → IsPair (in_force force)
in_force_is force s = record { fir = s.fir; iir = s.iir; sum = s.sum; precision = s.precision }

-- ---- all numbers

order_most : (n : ℕ) → nat_le n 17 ≡ true → n - 9 ≤ 8
order_most n e = let h : n ≤ 17 = leb-true n 17 e in omega (arith, h)

order_some : (n : ℕ) → nat_le n 9 ≡ false → 0 < n - 9
order_some n e = let h : 9 < n = leb-false n 9 e in omega (arith, h)

pub pair_is : (force : ChannelState) (step : ℕ) (samples : List ℤ) (n : ℕ) → IsChannelState force → IfSome (pair_of force step samples n) IsPair
pair_is force step samples n s = pick (n == 0) refl
  where
    third : (t : Bool) → nat_le n 17 ≡ t → nat_le n 9 ≡ false → IfSome (if t then option_map alone (computed step samples (n - 9)) else None) IsPair
    third true e below = computed_is (n - 9) (lags (over step samples)) (computed step samples (n - 9)) (order_some n below) (order_most n e) (best (lags (over step samples)) (n - 9) (order_most n e))
    third false e below = tt

    second : (t : Bool) → nat_le n 9 ≡ t → IfSome (if t then slice_get table (n - 1) else if nat_le n 17 then option_map alone (computed step samples (n - 9)) else None) IsPair
    second true e = table_is (n - 1)
    second false e = third (nat_le n 17) refl e

    pick : (t : Bool) → (n == 0) ≡ t → IfSome (if t then Some (in_force force) else if nat_le n 9 then slice_get table (n - 1) else if nat_le n 17 then option_map alone (computed step samples (n - 9)) else None) IsPair
    pick true e = in_force_is force s
    pick false e = second (nat_le n 9) refl
