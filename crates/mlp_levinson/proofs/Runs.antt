-- What the loop over orders keeps.
use Rattle.std.proofs.Common.{◌≡◌, ℕ, zero, suc, ◌+◌, ◌<◌, ◌≤◌, List, [], ◌∷◌, ◌++◌, length, ℤ, pos, negsuc, ◌≤ℤ◌, ◌<ℤ◌, FitsSigned, w64, to_z, of_z, true, false, Some, None, arith, refl, sym, ◌∙◌, ap, subst, inl, inr}
use Rattle.std.specs.Prelude.{All, slice_get, if◌then◌else◌}
use lib.Signed.{le_z}
use Rattle.std.proofs.lemmas.Int.{ints, to_z-of_z}
use Rattle.std.proofs.lemmas.Bool.{and_from}
use Rattle.std.proofs.lemmas.Bool.Decides.{eqb_tells, leb_tells}
use Rattle.std.proofs.lemmas.List.{length-append}
use Rattle.std.proofs.lemmas.Option.{slice_get_past}
use Rattle.mlp_syntax.specs.declared.params.Filter.{Filter}
use Rattle.mlp_levinson.specs.declared.recursion.Level.{Level}
use Rattle.mlp_levinson.specs.Computed.{at, level, next, is_positive, goes_on, filter_of, filter_over, IsLag, IsSmall}
use Rattle.mlp_levinson.proofs.Bounds.{level_small, level_error}
use Rattle.mlp_levinson.proofs.Bests.{length-level, stops, not_positive, is_positive-from}

-- the level of order m is reached
pub record Along (rs : List ℤ) (m : ℕ) (l : Level) : Type 0 where
  pub now : l ≡ level rs m
  pub going : goes_on rs m ≡ true
  pub few : m ≤ 8

pub along_count : (rs : List ℤ) (m : ℕ) (l : Level) → Along rs m l → length l.coefficients.items ≡ m
along_count rs m l a = ap (λ (x : Level). length x.coefficients.items) a.now ∙ length-level rs m

pub along_small : (rs : List ℤ) (m : ℕ) (l : Level) → Along rs m l → All IsSmall l.coefficients.items
along_small rs m l a = let P : Level → Type 0 = λ x. All IsSmall x.coefficients.items in subst P (sym a.now) (level_small rs m a.few)

pub along_lag : (rs : List ℤ) (m : ℕ) (l : Level) → IsLag (at rs 0) → Along rs m l → IsLag l.error
along_lag rs m l h a = let P : Level → Type 0 = λ x. IsLag x.error in subst P (sym a.now) (level_error rs m h a.going)

pub along_first : (rs : List ℤ) (l : Level) → l ≡ level rs 0 → Along rs 0 l
along_first rs l e = record { now = e; going = refl; few = omega arith }

pub along_next : (rs : List ℤ) (m : ℕ) (l after : Level) → m < 8 → pos 0 <ℤ l.error → after ≡ next rs l → Along rs m l → Along rs (m + 1) after
along_next rs m l after n p e a =
    let one : suc m ≡ m + 1 = omega arith in
    let P : ℕ → Type 0 = λ i. Along rs i after in
    let here : is_positive (level rs m).error ≡ true = ap (λ (x : Level). is_positive x.error) (sym a.now) ∙ is_positive-from l.error p in
    subst P one (record { now = e ∙ ap (next rs) a.now; going = and_from (goes_on rs m) (is_positive (level rs m).error) a.going here; few = omega arith })

pub along_stops : (rs : List ℤ) (m n : ℕ) (l : Level) → m < n → l.error ≤ℤ pos 0 → Along rs m l → filter_over rs n ≡ None
along_stops rs m n l less e a =
    ap (λ b. if b then Some (filter_of (level rs n).coefficients.items) else None)
    (stops rs m n less (ap (λ (x : Level). is_positive x.error) (sym a.now) ∙ not_positive l.error e))

pub along_found : (rs : List ℤ) (n : ℕ) (l : Level) (f : Filter 8) → f ≡ filter_of l.coefficients.items → Along rs n l → filter_over rs n ≡ Some f
along_found rs n l f e a =
    ap (λ b. if b then Some (filter_of (level rs n).coefficients.items) else None) a.going
    ∙ ap (λ (x : Level). Some (filter_of x.coefficients.items)) (sym a.now)
    ∙ ap Some (sym e)

-- what the test of an error says
pub above_zero : (e : ℤ) → IsLag e → le_z (to_z w64 (of_z w64 e)) (pos 0) ≡ false → pos 0 <ℤ e
above_zero e lag h =
    let f : FitsSigned w64 e = omega (arith, ints, lag.low, lag.high) in
    positive_where e (ap (λ z. le_z z (pos 0)) (sym (to_z-of_z w64 e f)) ∙ h)
  where
    positive_where : (e : ℤ) → le_z e (pos 0) ≡ false → pos 0 <ℤ e
    positive_where (pos zero) g = let n : ⊥ = cc in absurd n
    positive_where (pos (suc n)) g = omega (arith, ints)
    positive_where (negsuc n) g = let n : ⊥ = cc in absurd n

-- ---- the filters so far

get_front : (xs ys : List (Filter 8)) (m : ℕ) → m < length xs → slice_get (xs ++ ys) m ≡ slice_get xs m
get_front [] ys m h = absurd (omega arith)
get_front (x ∷ xs) ys zero h = refl
get_front (x ∷ xs) ys (suc m) h = get_front xs ys m (omega arith)

get_last : (xs : List (Filter 8)) (f : Filter 8) → slice_get (xs ++ f ∷ []) (length xs) ≡ Some f
get_last [] f = refl
get_last (x ∷ xs) f = get_last xs f

pub record AreFound (rs : List ℤ) (i : ℕ) (out : List (Filter 8)) : Type 0 where
  pub count : length out ≡ i
  pub found : (m : ℕ) → m < i → slice_get out m ≡ filter_over rs (m + 1)

pub found_none : (rs : List ℤ) (out : List (Filter 8)) → out ≡ [] → AreFound rs 0 out
found_none rs out e = record { count = ap length e; found = λ m h. absurd (omega arith) }

pub found_more : (rs : List ℤ) (i : ℕ) (out after : List (Filter 8)) (f : Filter 8) → after ≡ out ++ f ∷ [] → filter_over rs (i + 1) ≡ Some f → AreFound rs i out → AreFound rs (i + 1) after
found_more rs i out after f e h a =
    record {
      count = omega (arith, ap length e, length-append out (f ∷ []), a.count);
      found = λ m l. elim (eqb_tells m i) [
        | inl is ↦
            let P : ℕ → Type 0 = λ n. slice_get after n ≡ filter_over rs (n + 1) in
            let last : slice_get after i ≡ filter_over rs (i + 1) =
            ap (λ zs. slice_get zs i) e ∙ ap (slice_get (out ++ f ∷ [])) (sym a.count) ∙ get_last out f ∙ sym h in
            subst P (sym is.1) last
        | inr other ↦
            ap (λ zs. slice_get zs m) e ∙ get_front out (f ∷ []) m (omega (arith, other.1, a.count)) ∙ a.found m (omega (arith, other.1))
      ];
    }

-- the recursion stops: there are no more
pub found_stops : (rs : List ℤ) (i : ℕ) (l : Level) (out : List (Filter 8)) → l.error ≤ℤ pos 0 → Along rs i l → AreFound rs i out → (m : ℕ) → slice_get out m ≡ filter_over rs (m + 1)
found_stops rs i l out e a f m =
    elim (leb_tells i m) [
      | inl past ↦
          let more : i < m + 1 = omega (arith, past.1) in
          slice_get_past out m (omega (arith, past.1, f.count)) ∙ sym (along_stops rs i (m + 1) l more e a)
      | inr within ↦ f.found m within.1
    ]
