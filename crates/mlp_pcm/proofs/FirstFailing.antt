-- The first row at which a test fails.
use Rattle.std.proofs.Common.{◌≡◌, ℕ, zero, suc, List, [], ◌∷◌, take, ℤ, Bool, true, false, Option, Some, None, Ok, Err, Result, OnOk, OnErr, IfErr, cond, inl, inr, IsTrue, arith, refl, sym, ◌∙◌, ap}
use Rattle.std.specs.Prelude.{option_map, ◌&&◌}
use Rattle.std.specs.List.{list_all}
use Rattle.mlp_pcm.specs.Samples.{first_failing, IsFirstFailing, FirstFailingIsFirst, is_packable, packed, Packs}
use Rattle.mlp_pcm.proofs.ChunkViews.{either, left_true, right_true}

module _ (test : List ℤ → Bool) where
  passed_on : (row : List ℤ) (rows : List (List ℤ)) → test row ≡ true → first_failing test (row ∷ rows) ≡ option_map suc (first_failing test rows)
  unfolding first_failing
  passed_on row rows e = ap (λ (b : Bool). cond b (option_map suc (first_failing test rows)) (Some 0)) e

  fails_here : (row : List ℤ) (rows : List (List ℤ)) → test row ≡ false → first_failing test (row ∷ rows) ≡ Some 0
  unfolding first_failing
  fails_here row rows e = ap (λ (b : Bool). cond b (option_map suc (first_failing test rows)) (Some 0)) e

  all_more : (row : List ℤ) (rows : List (List ℤ)) → test row ≡ true → IsTrue (list_all test rows) → IsTrue (list_all test (row ∷ rows))
  all_more row rows e h = ap (λ (b : Bool). b && list_all test rows) e ∙ h

  pub none_fails : (rows : List (List ℤ)) → IsTrue (list_all test rows) → first_failing test rows ≡ None
  unfolding first_failing
  none_fails [] h = refl
  none_fails (row ∷ rows) h = passed_on row rows (left_true _ _ h) ∙ ap (option_map suc) (none_fails rows (right_true (test row) _ h))

  no_none : (o : Option ℕ) → option_map suc o ≡ None → o ≡ None
  no_none None h = refl
  no_none (Some i) h = cc

  all_pass : (rows : List (List ℤ)) → first_failing test rows ≡ None → IsTrue (list_all test rows)
  all_pass [] h = refl
  all_pass (row ∷ rows) h = elim (either (test row)) as (λ _. IsTrue (list_all test (row ∷ rows))) [
    | inl e ↦ all_more row rows e (all_pass rows (no_none (first_failing test rows) (sym (passed_on row rows e) ∙ h)))
    | inr e ↦ cc (fails_here row rows e, h)
  ]

  pub is_first : (rows : List (List ℤ)) (i : ℕ) → IsFirstFailing test rows i → first_failing test rows ≡ Some i
  is_first [] i h = absurd (omega (arith, h.within))
  is_first (row ∷ rows) zero h = fails_here row rows h.here
  is_first (row ∷ rows) (suc i) h =
      passed_on row rows (left_true (test row) (list_all test (take i rows)) h.before)
      ∙ ap (option_map suc) (is_first rows i (record { within = omega (arith, h.within); before = right_true (test row) (list_all test (take i rows)) h.before; here = h.here }))

  later : (row : List ℤ) (rows : List (List ℤ)) (i : ℕ) → test row ≡ true → IsFirstFailing test rows i → IsFirstFailing test (row ∷ rows) (suc i)
  later row rows i e h = record { within = omega (arith, h.within); before = all_more row (take i rows) e h.before; here = h.here }

  from_rest : (row : List ℤ) (rows : List (List ℤ)) (o : Option ℕ) (i : ℕ) → test row ≡ true
      → ((j : ℕ) → o ≡ Some j → IsFirstFailing test rows j) → option_map suc o ≡ Some i → IsFirstFailing test (row ∷ rows) i
  from_rest row rows None i e rest h = cc
  from_rest row rows (Some j) i e rest h =
      let same : suc j ≡ i = cc in
      rw (← same) (later row rows j e (rest j refl))

  first_is : (rows : List (List ℤ)) (i : ℕ) → first_failing test rows ≡ Some i → IsFirstFailing test rows i
  unfolding first_failing
  first_is [] i h = cc
  first_is (row ∷ rows) i h = elim (either (test row)) as (λ _. IsFirstFailing test (row ∷ rows) i) [
    | inl e ↦ from_rest row rows (first_failing test rows) i e (λ j q. first_is rows j q) (sym (passed_on row rows e) ∙ h)
    | inr e ↦
        let same : 0 ≡ i = cc (fails_here row rows e, h) in
        rw (← same) (record { within = omega arith; before = refl; here = e })
  ]

  pub first_failing_is : (rows : List (List ℤ)) → FirstFailingIsFirst test rows
  first_failing_is rows = record { none = (all_pass rows, none_fails rows); some = λ i. (first_is rows i, is_first rows i) }

-- what a loop over the frames gives
pub packs : (bits channels : ℕ) (rows : List (List ℤ)) (out : List ℕ) (r : Result Unit ℕ) → OnOk r (out ≡ packed bits channels rows) → OnOk r (IsTrue (list_all (is_packable bits channels) rows))
    → IfErr r (IsFirstFailing (is_packable bits channels) rows) → OnErr r (out ≡ []) → Packs bits channels rows out r
packs bits channels rows out (Ok x) whole clear first none = (none_fails (is_packable bits channels) rows clear, whole)
packs bits channels rows out (Err i) whole clear first none = (is_first (is_packable bits channels) rows i first, none)
