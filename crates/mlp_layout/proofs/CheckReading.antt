-- Reading a value and the check behind it.
use Rattle.std.proofs.Common.{◌≡◌, ◌≢◌, ℕ, ◌+◌, ◌-◌, ◌≤◌, eqb, Bool, true, false, List, length, take, drop, Ok, Err, refl, sym, ap, ◌∙◌, arith, eq-eqb}
use Rattle.std.proofs.lemmas.Bool.{ne_eqb}
use Rattle.mlp_syntax.specs.declared.fault.Field.{Field}
use Rattle.mlp_syntax.specs.declared.fault.Broken.{Broken}
use Rattle.mlp_layout.specs.Reading.{broken}
use Rattle.mlp_layout.specs.Layout.{Layout, IsLayout, number_of, ruled, part, made}
use Rattle.mlp_layout.specs.Combined.{fixed, checked}
use Rattle.mlp_layout.proofs.LayoutLaws.{is_found}

module _ {A : Type 0} (w : ℕ) (check : List Bool → ℕ) (field : Field) (l : Layout A) (all : List Bool) (p : ℕ) where
  pub check_err : (e : Broken) → l.read all p ≡ Err e → (checked w check field l).read all p ≡ Err e
  unfolding checked part
  check_err e h = rw h refl

  pub check_short : (x : A) (m : ℕ) (e : Broken) → l.read all p ≡ Ok (x, m) → (number_of w).read all m ≡ Err e → (checked w check field l).read all p ≡ Err e
  unfolding checked fixed part ruled
  check_short x m e h k = rw (h, k) refl

  -- the bits that were taken are the value's
  text_of : IsLayout l → p ≤ length all → (x : A) (m : ℕ) → l.read all p ≡ Ok (x, m) → take (m - p) (drop p all) ≡ l.spelling x
  text_of is le x m h =
      let f = is_found is all p le (x, m) h in
      let len : m - p ≡ length (l.spelling x) = omega (arith, f.1) in
      rw len f.0.stands.text_is

  pub check_ok : IsLayout l → p ≤ length all → (x : A) (m n q : ℕ) → l.read all p ≡ Ok (x, m) → (number_of w).read all m ≡ Ok (n, q)
      → n ≡ check (take (m - p) (drop p all)) → (checked w check field l).read all p ≡ Ok (x, q)
  unfolding checked fixed part ruled made
  check_ok is le x m n q h k same =
      let holds : eqb n (check (l.spelling x)) ≡ true = eq-eqb n _ (same ∙ ap check (text_of is le x m h)) in
      rw (h, k, holds) refl

  pub check_fails : IsLayout l → p ≤ length all → (x : A) (m n q : ℕ) → l.read all p ≡ Ok (x, m) → (number_of w).read all m ≡ Ok (n, q)
      → n ≢ check (take (m - p) (drop p all)) → (checked w check field l).read all p ≡ Err (broken field m)
  unfolding checked fixed part ruled
  check_fails is le x m n q h k other =
      let holds : eqb n (check (l.spelling x)) ≡ false = ne_eqb n _ (λ e. other (e ∙ ap check (sym (text_of is le x m h)))) in
      let here : m + 0 ≡ m = omega arith in
      rw (h, k, holds, here) refl
