-- Lists of numbers that are compared one after the other.
use Rattle.std.proofs.Common.{◌≡◌, ℕ, ◌<◌, ℤ, pos, Bool, true, false, List, length, get_or, refl, sym, ap}
use Rattle.std.specs.Ordering.{int_eq}
use Rattle.std.specs.Cmp.Lexicographic.{pointwise, pointwise_decides}
use Rattle.std.proofs.lemmas.Bool.Decides.{Decides-int_eq}
use Rattle.std.proofs.lemmas.List.{ext_get_or}

differ : (xs ys : List ℤ) → (xs ≡ ys → ⊥) → false ≡ pointwise int_eq xs ys
differ xs ys other = pick (pointwise int_eq xs ys) refl
  where
    pick : (t : Bool) → pointwise int_eq xs ys ≡ t → false ≡ t
    pick true e = absurd (other ((pointwise_decides Decides-int_eq xs ys).0 e))
    pick false e = refl

pub other_item : (xs ys : List ℤ) (i : ℕ) → (get_or xs i (pos 0) ≡ get_or ys i (pos 0) → ⊥) → false ≡ pointwise int_eq xs ys
other_item xs ys i other = differ xs ys (λ e. other (ap (λ (zs : List ℤ). get_or zs i (pos 0)) e))

pub same_items : (xs ys : List ℤ) → length xs ≡ length ys → ((k : ℕ) → k < length xs → get_or xs k (pos 0) ≡ get_or ys k (pos 0)) → true ≡ pointwise int_eq xs ys
same_items xs ys length_is each = sym ((pointwise_decides Decides-int_eq xs ys).1 (ext_get_or (pos 0) xs ys length_is each))
