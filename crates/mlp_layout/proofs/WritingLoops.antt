-- Writing values of one layout, one after the other, as a loop does.
use Rattle.std.proofs.Common.{◌≡◌, ℕ, ◌+◌, ◌<◌, ◌≤◌, Bool, List, [], ◌∷◌, ◌++◌, length, drop, get_or, Result, refl, sym, ap, subst, ◌∙◌}
use Rattle.std.proofs.lemmas.List.{drop_more, drop_all}
use Rattle.mlp_layout.specs.Layout.{Layout, item, made}
use Rattle.mlp_layout.specs.Combined.{times}
use Rattle.mlp_layout.specs.Writing.{room, Wrote, Filled, Writes}
use Rattle.mlp_layout.proofs.CombinedLaws.{times_count}
use Rattle.mlp_layout.proofs.WritingLaws.{writes_as, SoFar, so_far_begins, so_far_goes_on, so_far_stops, so_far_ends}

-- values, one after the other
abbrev pub text : {A : Type 0} → Layout A → List A → List Bool
text l xs = (times (length xs) l).spelling xs

abbrev pub Fit : {A : Type 0} → Layout A → List A → Type 0
Fit l xs = (times (length xs) l).Fits xs

-- so many values are all of them
pub all_fit : {A : Type 0} (l : Layout A) (xs : List A) → (n : ℕ) × (times n l).Fits xs → Fit l xs
all_fit l xs h = subst (λ (k : ℕ). (times k l).Fits xs) (sym (times_count h.0 l xs h.1)) h.1

pub all_written : {A E : Type 0} (l : Layout A) (xs : List A) {old new : List Bool} {r : Result (Unit {0}) E} → Writes old new r (text l xs) → (n : ℕ) → (times n l).Fits xs → Writes old new r ((times n l).spelling xs)
all_written l xs w n h = writes_as (ap (λ (k : ℕ). (times k l).spelling xs) (times_count n l xs h)) w

-- what a loop keeps, that has written so many of them
pub record Along {A : Type 0} (l : Layout A) (xs : List A) (i : ℕ) (old now : List Bool) : Type 0 where
  pub so_far : SoFar old now (text l (drop i xs)) (text l xs)
  pub fit : Fit l (drop i xs)

pub begins : {A : Type 0} (l : Layout A) (xs : List A) (old : List Bool) → length old ≤ room → Fit l xs → Along l xs 0 old old
begins l xs old le fit = record { so_far = so_far_begins old (text l xs) le; fit = fit }

text_more : {A : Type 0} (l : Layout A) (x : A) (xs : List A) → text l (x ∷ xs) ≡ l.spelling x ++ text l xs
unfolding times item
text_more l x xs = refl

fit_more : {A : Type 0} (l : Layout A) (x : A) (xs : List A) → Fit l (x ∷ xs) → l.Fits x × Fit l xs
unfolding times item
fit_more l x xs h = h

no_text : {A : Type 0} (l : Layout A) → text l [] ≡ []
unfolding times made
no_text l = refl

module _ {A : Type 0} (l : Layout A) (xs : List A) (i : ℕ) (x : A) (lt : i < length xs) (at : x ≡ get_or xs i x) (old now : List Bool) (along : Along l xs i old now) where
  next : drop i xs ≡ x ∷ drop (i + 1) xs
  next = drop_more xs i x lt ∙ ap (λ (y : A). y ∷ drop (i + 1) xs) (sym at)

  parts : l.Fits x × Fit l (drop (i + 1) xs)
  parts = fit_more l x (drop (i + 1) xs) (subst (λ (ys : List A). Fit l ys) next along.fit)

  left : SoFar old now (l.spelling x ++ text l (drop (i + 1) xs)) (text l xs)
  left = subst (λ (t : List Bool). SoFar old now t (text l xs)) (ap (λ (ys : List A). text l ys) next ∙ text_more l x (drop (i + 1) xs)) along.so_far

  pub fits_here : l.Fits x
  fits_here = parts.0

  pub goes_on : (new : List Bool) → Wrote now new (l.spelling x) → Along l xs (i + 1) old new
  goes_on new w = record { so_far = so_far_goes_on old now new (l.spelling x) (text l (drop (i + 1) xs)) (text l xs) left w; fit = parts.1 }

  pub stops : (new : List Bool) → Filled now new (l.spelling x) → Filled old new (text l xs)
  stops new w = so_far_stops old now new (l.spelling x) (text l (drop (i + 1) xs)) (text l xs) left w

pub is_done : {A : Type 0} (l : Layout A) (xs : List A) (i : ℕ) (old now : List Bool) → length xs ≤ i → Along l xs i old now → Wrote old now (text l xs)
is_done l xs i old now le along = so_far_ends old now (text l xs) (subst (λ (t : List Bool). SoFar old now t (text l xs)) (ap (λ (ys : List _). text l ys) (drop_all i xs le) ∙ no_text l) along.so_far)

-- ---- the same, where the loop needs nothing to know of what is left

module _ {A : Type 0} (l : Layout A) (xs : List A) (i : ℕ) (x : A) (lt : i < length xs) (at : x ≡ get_or xs i x) (old now : List Bool) (so_far : SoFar old now (text l (drop i xs)) (text l xs)) where
  next_left : SoFar old now (l.spelling x ++ text l (drop (i + 1) xs)) (text l xs)
  next_left = subst (λ (t : List Bool). SoFar old now t (text l xs)) (ap (λ (ys : List A). text l ys) (drop_more xs i x lt ∙ ap (λ (y : A). y ∷ drop (i + 1) xs) (sym at)) ∙ text_more l x (drop (i + 1) xs)) so_far

  pub text_goes_on : (new : List Bool) → Wrote now new (l.spelling x) → SoFar old new (text l (drop (i + 1) xs)) (text l xs)
  text_goes_on new w = so_far_goes_on old now new (l.spelling x) (text l (drop (i + 1) xs)) (text l xs) next_left w

  pub text_stops : (new : List Bool) → Filled now new (l.spelling x) → Filled old new (text l xs)
  text_stops new w = so_far_stops old now new (l.spelling x) (text l (drop (i + 1) xs)) (text l xs) next_left w

pub text_done : {A : Type 0} (l : Layout A) (xs : List A) (i : ℕ) (old now : List Bool) → length xs ≤ i → SoFar old now (text l (drop i xs)) (text l xs) → Wrote old now (text l xs)
text_done l xs i old now le so_far = so_far_ends old now (text l xs) (subst (λ (t : List Bool). SoFar old now t (text l xs)) (ap (λ (ys : List _). text l ys) (drop_all i xs le) ∙ no_text l) so_far)
