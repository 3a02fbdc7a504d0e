-- Reading a series, and values up to a last one, as a loop does: it goes on, it stops at a fault, it is done. `total` is
-- what reading the whole gives, and `front` the values that were read.
use Rattle.std.proofs.Common.{◌≡◌, ℕ, suc, ◌+◌, ◌-◌, ◌<◌, ◌≤◌, Bool, true, false, List, [], ◌∷◌, ◌++◌, Ok, Err, refl, sym, ap, ◌∙◌, arith}
use Rattle.std.proofs.lemmas.List.{append-nil}
use Rattle.mlp_syntax.specs.declared.fault.Field.{Field}
use Rattle.mlp_syntax.specs.declared.fault.Broken.{Broken}
use Rattle.mlp_layout.specs.Reading.{Read, with_front}
use Rattle.mlp_layout.specs.Layout.{Layout, item, made, part}
use Rattle.mlp_layout.specs.Combined.{flag, chosen, series, up_to_last}
use Rattle.mlp_layout.proofs.Repeated.{regroup}

-- ---- a series

-- what is left to read gives the whole
abbrev pub SeriesContinues : {A : Type 0} → (List A → Layout A) → ℕ → List A → List Bool → ℕ → Read (List A) → Type 0
SeriesContinues l left front all place total = with_front front ((series l left front).read all place) ≡ total

pub series_goes_on : {A : Type 0} (l : List A → Layout A) (front : List A) (count i : ℕ) (all : List Bool) (p q : ℕ) (x : A) (total : Read (List A)) → i < count → (l front).read all p ≡ Ok (x, q)
    → SeriesContinues l (count - i) front all p total → SeriesContinues l (count - (i + 1)) (front ++ x ∷ []) all q total
unfolding series item
series_goes_on l front count i all p q x total lt h so_far =
    let k : count - i ≡ suc (count - (i + 1)) = omega arith in
    let one : with_front front ((series l (count - i) front).read all p) ≡ with_front (front ++ x ∷ []) ((series l (count - (i + 1)) (front ++ x ∷ [])).read all q) =
    rw (k, h) (regroup front x ((series l (count - (i + 1)) (front ++ x ∷ [])).read all q)) in
    sym one ∙ so_far

pub series_stops : {A : Type 0} (l : List A → Layout A) (front : List A) (count i : ℕ) (all : List Bool) (p : ℕ) (e : Broken) (total : Read (List A))
    → i < count → (l front).read all p ≡ Err e → SeriesContinues l (count - i) front all p total → total ≡ Err e
unfolding series item
series_stops l front count i all p e total lt h so_far =
    let k : count - i ≡ suc (count - (i + 1)) = omega arith in
    let one : with_front front ((series l (count - i) front).read all p) ≡ Err e = rw (k, h) refl in
    sym so_far ∙ one

pub series_is_done : {A : Type 0} (l : List A → Layout A) (front : List A) (count i : ℕ) (all : List Bool) (p : ℕ) (total : Read (List A)) → count ≤ i → SeriesContinues l (count - i) front all p total → total ≡ Ok (front, p)
unfolding series made
series_is_done l front count i all p total le so_far =
    let k : count - i ≡ 0 = omega arith in
    let one : with_front front ((series l (count - i) front).read all p) ≡ Ok (front, p) = rw k (ap (λ (xs : List _). Ok (xs, p)) (append-nil front)) in
    sym so_far ∙ one

-- ---- values up to a last one

module _ {S A : Type 0} (value : S → Layout A) (after : S → A → S) (field : Field) where
  -- what is left to read, of which there are so many at most, gives the whole
  abbrev pub ValuesContinue : ℕ → S → List A → List Bool → ℕ → Read (List A) → Type 0
  ValuesContinue left s front all place total = with_front front ((up_to_last value after field left s).read all place) ≡ total

  module _ (left : ℕ) (s : S) (front : List A) (all : List Bool) (p : ℕ) (total : Read (List A)) (so_far : ValuesContinue (suc left) s front all p total) where
    -- the value fails
    pub value_stops : (e : Broken) → (value s).read all p ≡ Err e → total ≡ Err e
    unfolding up_to_last item
    value_stops e h = let one : with_front front ((up_to_last value after field (suc left) s).read all p) ≡ Err e = rw h refl in sym so_far ∙ one

    module _ (x : A) (q : ℕ) (h : (value s).read all p ≡ Ok (x, q)) where
      -- the bit behind it isn't there
      pub bit_stops : (e : Broken) → flag.read all q ≡ Err e → total ≡ Err e
      unfolding up_to_last item part
      bit_stops e k = let one : with_front front ((up_to_last value after field (suc left) s).read all p) ≡ Err e = rw (h, k) refl in sym so_far ∙ one

      -- it was the last value
      pub is_last : (r : ℕ) → flag.read all q ≡ Ok (true, r) → total ≡ Ok (front ++ x ∷ [], r)
      unfolding up_to_last item part chosen made
      is_last r k = let one : with_front front ((up_to_last value after field (suc left) s).read all p) ≡ Ok (front ++ x ∷ [], r) = rw (h, k) refl in sym so_far ∙ one

      -- others follow
      pub values_go_on : (r : ℕ) → flag.read all q ≡ Ok (false, r) → ValuesContinue left (after s x) (front ++ x ∷ []) all r total
      unfolding up_to_last item part chosen
      values_go_on r k =
          let one : with_front front ((up_to_last value after field (suc left) s).read all p) ≡ with_front (front ++ x ∷ []) ((up_to_last value after field left (after s x)).read all r) =
          rw (h, k) (regroup front x ((up_to_last value after field left (after s x)).read all r)) in
          sym one ∙ so_far
