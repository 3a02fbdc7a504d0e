-- Reading so many values as a loop does.
use Rattle.std.proofs.Common.{◌≡◌, ℕ, suc, ◌+◌, ◌-◌, ◌<◌, ◌≤◌, Bool, List, [], ◌∷◌, ◌++◌, Ok, Err, refl, sym, ap, ◌∙◌, append_assoc, arith}
use Rattle.std.proofs.lemmas.List.{append-nil}
use Rattle.mlp_syntax.specs.declared.fault.Broken.{Broken}
use Rattle.mlp_layout.specs.Reading.{Read, ◌>>=◌, with_front}
use Rattle.mlp_layout.specs.Layout.{Layout, item, made}
use Rattle.mlp_layout.specs.Combined.{times}

-- what was read so far, one value more
pub regroup : {A : Type 0} (front : List A) (x : A) (read : Read (List A)) → with_front front (read >>= λ xs. Ok (x ∷ xs.0, xs.1)) ≡ with_front (front ++ x ∷ []) read
regroup front x (Ok xs) = ap (λ (ys : List _). Ok (ys, xs.1)) (simp append_assoc)
regroup front x (Err e) = refl

pub no_front : {A : Type 0} (r : Read (List A)) → with_front [] r ≡ r
no_front (Ok x) = refl
no_front (Err e) = refl

-- what is left to read gives the whole
abbrev pub Continues : {A : Type 0} → Layout A → ℕ → List A → List Bool → ℕ → Read (List A) → Type 0
Continues l left front all place total = with_front front ((times left l).read all place) ≡ total

pub goes_on : {A : Type 0} (l : Layout A) (front : List A) (count i : ℕ) (all : List Bool) (p q : ℕ) (x : A) (total : Read (List A)) → i < count → l.read all p ≡ Ok (x, q)
    → Continues l (count - i) front all p total → Continues l (count - (i + 1)) (front ++ x ∷ []) all q total
unfolding times item
goes_on l front count i all p q x total lt h so_far =
    let k : count - i ≡ suc (count - (i + 1)) = omega arith in
    let one : with_front front ((times (count - i) l).read all p) ≡ with_front (front ++ x ∷ []) ((times (count - (i + 1)) l).read all q) = rw (k, h) (regroup front x ((times (count - (i + 1)) l).read all q)) in
    sym one ∙ so_far

pub stops : {A : Type 0} (l : Layout A) (front : List A) (count i : ℕ) (all : List Bool) (p : ℕ) (e : Broken) (total : Read (List A))
    → i < count → l.read all p ≡ Err e → Continues l (count - i) front all p total → total ≡ Err e
unfolding times item
stops l front count i all p e total lt h so_far =
    let k : count - i ≡ suc (count - (i + 1)) = omega arith in
    let one : with_front front ((times (count - i) l).read all p) ≡ Err e = rw (k, h) refl in
    sym so_far ∙ one

pub is_done : {A : Type 0} (l : Layout A) (front : List A) (count i : ℕ) (all : List Bool) (p : ℕ) (total : Read (List A)) → count ≤ i → Continues l (count - i) front all p total → total ≡ Ok (front, p)
unfolding times made
is_done l front count i all p total le so_far =
    let k : count - i ≡ 0 = omega arith in
    let one : with_front front ((times (count - i) l).read all p) ≡ Ok (front, p) = rw k (ap (λ (xs : List _). Ok (xs, p)) (append-nil front)) in
    sym so_far ∙ one
