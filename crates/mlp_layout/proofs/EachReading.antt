-- Reading a value for each item of a list, as a loop does.
use Rattle.std.proofs.Common.{◌≡◌, ℕ, ◌+◌, ◌<◌, ◌≤◌, Bool, List, [], ◌∷◌, ◌++◌, length, drop, get_or, Ok, Err, refl, sym, ap, ◌∙◌}
use Rattle.std.proofs.lemmas.List.{append-nil, drop_more, drop_all}
use Rattle.mlp_syntax.specs.declared.fault.Broken.{Broken}
use Rattle.mlp_layout.specs.Reading.{Read, with_front}
use Rattle.mlp_layout.specs.Layout.{Layout, item, made}
use Rattle.mlp_layout.specs.Combined.{each}
use Rattle.mlp_layout.proofs.Repeated.{regroup}

-- what is left to read gives the whole
abbrev pub Continues : {S A : Type 0} → (S → Layout A) → List S → List A → List Bool → ℕ → Read (List A) → Type 0
Continues l left front all place total = with_front front ((each l left).read all place) ≡ total

module _ {S A : Type 0} (l : S → Layout A) (ss : List S) (i : ℕ) (s : S) (front : List A) (all : List Bool) (p : ℕ) where
  next : i < length ss → s ≡ get_or ss i s → drop i ss ≡ s ∷ drop (i + 1) ss
  next lt at = drop_more ss i s lt ∙ ap (λ (y : S). y ∷ drop (i + 1) ss) (sym at)

  pub goes_on : (q : ℕ) (x : A) (total : Read (List A)) → i < length ss → s ≡ get_or ss i s → (l s).read all p ≡ Ok (x, q)
      → Continues l (drop i ss) front all p total → Continues l (drop (i + 1) ss) (front ++ x ∷ []) all q total
  unfolding each item
  goes_on q x total lt at h so_far =
      let one : with_front front ((each l (drop i ss)).read all p) ≡ with_front (front ++ x ∷ []) ((each l (drop (i + 1) ss)).read all q) = rw (next lt at, h) (regroup front x ((each l (drop (i + 1) ss)).read all q)) in
      sym one ∙ so_far

  pub stops : (e : Broken) (total : Read (List A)) → i < length ss → s ≡ get_or ss i s → (l s).read all p ≡ Err e → Continues l (drop i ss) front all p total → total ≡ Err e
  unfolding each item
  stops e total lt at h so_far =
      let one : with_front front ((each l (drop i ss)).read all p) ≡ Err e = rw (next lt at, h) refl in
      sym so_far ∙ one

pub is_done : {S A : Type 0} (l : S → Layout A) (ss : List S) (i : ℕ) (front : List A) (all : List Bool) (p : ℕ) (total : Read (List A)) → length ss ≤ i → Continues l (drop i ss) front all p total → total ≡ Ok (front, p)
unfolding each made
is_done l ss i front all p total le so_far =
    let one : with_front front ((each l (drop i ss)).read all p) ≡ Ok (front, p) = rw (drop_all i ss le) (ap (λ (xs : List _). Ok (xs, p)) (append-nil front)) in
    sym so_far ∙ one
