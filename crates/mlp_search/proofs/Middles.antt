-- The least and the greatest of values, one after the other.
use Rattle.std.proofs.Common.{◌≡◌, ℕ, ◌+◌, ◌<◌, ℤ, pos, true, List, [], ◌∷◌, length, map, drop, get_or, arith, sym, ◌∙◌, ap, inl, inr}
use Rattle.std.specs.Int.{int_min, int_max}
use Rattle.std.proofs.lemmas.List.{drop_more}
use Rattle.mlp_search.specs.Candidates.{least_from, greatest_from}
use Rattle.mlp_search.specs.Cost.{is_offset}
use Rattle.mlp_search.proofs.CostLaws.{offset_either}

pub least_next : (f : ℤ → ℤ) (rs : List ℤ) (i : ℕ) (least t : ℤ) → i < length rs → least_from least (map f (drop i rs)) ≡ t → least_from (int_min least (f (get_or rs i (pos 0)))) (map f (drop (i + 1) rs)) ≡ t
least_next f rs i least t lt e = sym (ap (λ (xs : List ℤ). least_from least (map f xs)) (drop_more rs i (pos 0) lt)) ∙ e

pub greatest_next : (f : ℤ → ℤ) (rs : List ℤ) (i : ℕ) (greatest t : ℤ) → i < length rs → greatest_from greatest (map f (drop i rs)) ≡ t → greatest_from (int_max greatest (f (get_or rs i (pos 0)))) (map f (drop (i + 1) rs)) ≡ t
greatest_next f rs i greatest t lt e = sym (ap (λ (xs : List ℤ). greatest_from greatest (map f xs)) (drop_more rs i (pos 0) lt)) ∙ e

-- without values there is no offset but 0
pub offset_none : (step : ℕ) (vs : List ℤ) (m : ℤ) → is_offset step vs m ≡ true → length vs ≡ 0 → m ≡ pos 0
offset_none step [] m h none = elim (offset_either step [] m h) [
  | inl e ↦ e
  | inr e ↦ e
]
offset_none step (v ∷ vs) m h none = absurd (omega (arith, none))
