-- Elements of a list of three that are renewed one after the other.
use Rattle.std.proofs.Common.{◌≡◌, ℕ, ◌+◌, ◌<◌, ◌≤◌, List, [], ◌∷◌, ◌++◌, ◌∙◌, take, drop, map, length, get_or, sym, ap, subst, arith}
use Rattle.std.specs.List.{range_with_len}
use Rattle.std.proofs.lemmas.List.{take_more_set, length-set, drop-set-lt, drop_more}
use Rattle.std.proofs.lemmas.List.FromFn.{map-range_with_len_more}
use Rattle.std.proofs.lemmas.Bool.Decides.{nat_tests}
use lib.ListN.{set}
use Rattle.mlp_fold.specs.Substreams.{substreams_of}

pub substreams_most : (n : ℕ) → substreams_of n ≤ 3
substreams_most n = grind (arith, nat_tests)

-- the first n are renewed, and the others are not
pub record Renewed (f : ℕ → ℕ) (n : ℕ) (xs old : List ℕ) : Type 0 where
  pub so_far : take n xs ≡ map f (range_with_len 0 n)
  pub rest : drop n xs ≡ drop n old
  pub count : length xs ≡ 3

heads : (xs ys : List ℕ) (a b : ℕ) → a ∷ xs ≡ b ∷ ys → a ≡ b
heads xs ys a b e = ap (λ (l : List ℕ). get_or l 0 0) e

tails : (xs ys : List ℕ) (a b : ℕ) → a ∷ xs ≡ b ∷ ys → xs ≡ ys
tails xs ys a b e = ap (λ (l : List ℕ). drop 1 l) e

module _ (f : ℕ → ℕ) (k : ℕ) (xs old : List ℕ) (h : Renewed f k xs old) (lt : k < 3) (long : length old ≡ 3) where
  both : get_or xs k 0 ∷ drop (k + 1) xs ≡ get_or old k 0 ∷ drop (k + 1) old
  both = sym (drop_more xs k 0 (omega (arith, h.count, lt))) ∙ h.rest ∙ drop_more old k 0 (omega (arith, long, lt))

  pub not_yet : get_or xs k 0 ≡ get_or old k 0
  not_yet = heads (drop (k + 1) xs) (drop (k + 1) old) (get_or xs k 0) (get_or old k 0) both

  here : (x : ℕ) → x ≡ f k → Renewed f (k + 1) (set xs k x) old
  here x e = record {
    so_far = take_more_set xs k x (omega (arith, h.count, lt)) ∙ ap (λ (l : List ℕ). l ++ x ∷ []) h.so_far
        ∙ ap (λ (y : ℕ). map f (range_with_len 0 k) ++ y ∷ []) e
        ∙ sym (map-range_with_len_more f 0 k k (omega arith));
    rest = drop-set-lt (k + 1) xs k x (omega arith) ∙ tails (drop (k + 1) xs) (drop (k + 1) old) (get_or xs k 0) (get_or old k 0) both;
    count = length-set xs k x ∙ h.count;
  }

  pub one_more : (i x : ℕ) → i ≡ k → x ≡ f k → Renewed f (k + 1) (set xs i x) old
  one_more i x at e = subst (λ (m : ℕ). Renewed f (k + 1) (set xs m x) old) (sym at) (here x e)
