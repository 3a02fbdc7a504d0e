-- One text written behind another.
use Rattle.std.proofs.Common.{◌≡◌, ℕ, suc, ◌+◌, ◌-◌, ◌<◌, ◌≤◌, Bool, List, [], ◌∷◌, ◌++◌, length, take, drop, get_or, Result, Ok, Err, append_assoc, refl, sym, ap, ◌∙◌, subst, arith, inl, inr}
use Rattle.std.proofs.lemmas.Bool.{cases_lt}
use Rattle.std.specs.Prelude.{◌↔◌, IsErr, IsErrAnd, OnErr, OnOk}
use Rattle.std.proofs.lemmas.List.{length-append, append-nil, drop_more, take_more}
use Rattle.mlp_bits.specs.Bits.{bits}
use Rattle.mlp_bits.proofs.BitLists.{length-bits}
use Rattle.mlp_layout.specs.Layout.{Layout, item, made}
use Rattle.mlp_layout.specs.Combined.{series}
use Rattle.mlp_layout.specs.Writing.{room, Wrote, Filled, Writes}

pub wrote_none : (old new : List Bool) → new ≡ old → length old ≤ room → Wrote old new []
wrote_none old new e le = record { appended = e ∙ sym (append-nil old); fitted = omega arith }

pub wrote_then : (old middle new first later : List Bool) → Wrote old middle first → Wrote middle new later → Wrote old new (first ++ later)
wrote_then old middle new first later a b =
    let joined : (old ++ first) ++ later ≡ old ++ (first ++ later) = append_assoc old first later in
    record {
      appended = b.appended ∙ ap (λ (t : List Bool). t ++ later) a.appended ∙ joined;
      fitted = omega (arith, a.fitted, b.fitted, ap (λ (t : List Bool). length t) a.appended, length-append old first, length-append first later);
    }

-- a text that found room, and one behind it that didn't
pub filled_then : (old middle new first later : List Bool) → Wrote old middle first → Filled middle new later → Filled old new (first ++ later)
filled_then old middle new first later a b =
    let text : first ++ later ≡ (first ++ b.front) ++ b.back = ap (λ (t : List Bool). first ++ t) b.text_is ∙ sym (append_assoc first b.front b.back) in
    let joined : (old ++ first) ++ b.front ≡ old ++ (first ++ b.front) = append_assoc old first b.front in
    record {
      full = omega (arith, b.full, ap (λ (t : List Bool). length t) a.appended, length-append old first, length-append first later);
      front = first ++ b.front;
      back = b.back;
      text_is = text;
      appended = b.appended ∙ ap (λ (t : List Bool). t ++ b.front) a.appended ∙ joined;
    }

-- a text that found no room, and what was to stand behind it
pub filled_first : (old new first later : List Bool) → Filled old new first → Filled old new (first ++ later)
filled_first old new first later a =
    record {
      full = omega (arith, a.full, length-append first later);
      front = a.front;
      back = a.back ++ later;
      text_is = ap (λ (t : List Bool). t ++ later) a.text_is ∙ append_assoc a.front a.back later;
      appended = a.appended;
    }

-- a text without room of which nothing was written
pub filled_none : (old new text : List Bool) → room < length old + length text → new ≡ old → Filled old new text
filled_none old new text full e = record { full = full; front = []; back = text; text_is = refl; appended = e ∙ sym (append-nil old) }

pub wrote_as : (old new text other : List Bool) → text ≡ other → Wrote old new text → Wrote old new other
wrote_as old new text other e a = subst (λ (t : List Bool). Wrote old new t) e a

pub filled_as : (old new text other : List Bool) → text ≡ other → Filled old new text → Filled old new other
filled_as old new text other e a = subst (λ (t : List Bool). Filled old new t) e a

-- what a writer's call did
pub put_writes : {E : Type 0} (old new : List Bool) (r : Result (Unit {0}) E) (width value : ℕ) → (IsErr r ↔ (room < length old + width))
    → OnErr r (new ≡ old) → OnOk r (new ≡ old ++ bits width value) → Writes old new r (bits width value)
put_writes old new (Ok x) width value full kept appended = elim (cases_lt room (length old + width)) [
  | inl lt ↦ absurd (let h = full.1 lt in cc)
  | inr le ↦ record { ok = record { appended = appended; fitted = omega (arith, length-bits width value) }; err = tt }
]
put_writes old new (Err e) width value full kept appended = record { ok = tt; err = filled_none old new (bits width value) (let h = full.0 refl in omega (arith, length-bits width value)) kept }

-- a call behind one that wrote its text
pub then_writes : {E F : Type 0} {old middle new first later : List Bool} {x : Unit {0}} {r : Result (Unit {0}) E} → Writes {E = F} old middle (Ok x) first → Writes middle new r later → Writes old new r (first ++ later)
then_writes {E} {old} {middle} {new} {first} {later} {r} a b = go r b
  where
    go : (r : Result (Unit {0}) E) → Writes middle new r later → Writes old new r (first ++ later)
    go (Ok x) b = record { ok = wrote_then old middle new first later a.ok b.ok; err = tt }
    go (Err e) b = record { ok = tt; err = filled_then old middle new first later a.ok b.err }

-- a call that found no room, before others, and as the last: the fact on `r` is what its `?` ensures of its answer
pub stops_writing : {E F : Type 0} (Q : E → Type 0) {old new first : List Bool} {e : F} (later : List Bool) (r : Result (Unit {0}) E) → IsErrAnd r Q → Writes {E = F} old new (Err e) first → Writes old new r (first ++ later)
stops_writing Q {old} {new} {first} later (Ok x) is a = absurd is
stops_writing Q {old} {new} {first} later (Err d) is a = record { ok = tt; err = filled_first old new first later a.err }

pub stops_last : {E F : Type 0} (Q : E → Type 0) {old new text : List Bool} {e : F} (r : Result (Unit {0}) E) → IsErrAnd r Q → Writes {E = F} old new (Err e) text → Writes old new r text
stops_last Q (Ok x) is a = absurd is
stops_last Q (Err d) is a = record { ok = tt; err = a.err }

pub writes_as : {E : Type 0} {old new text other : List Bool} {r : Result (Unit {0}) E} → text ≡ other → Writes old new r text → Writes old new r other
writes_as {old} {new} {r} e a = subst (λ (t : List Bool). Writes old new r t) e a

-- ---- values of a series, as a loop writes them

-- what is left to write, and that it fits
abbrev pub left_of : {A : Type 0} → (List A → Layout A) → List A → ℕ → List Bool
left_of l xs i = (series l (length xs - i) (take i xs)).spelling (drop i xs)

abbrev pub LeftFits : {A : Type 0} → (List A → Layout A) → List A → ℕ → Type 0
LeftFits l xs i = (series l (length xs - i) (take i xs)).Fits (drop i xs)

module _ {A : Type 0} (l : List A → Layout A) (xs : List A) (i : ℕ) (x : A) (h : i < length xs) (at : x ≡ get_or xs i x) where
  more_is : drop i xs ≡ x ∷ drop (i + 1) xs
  more_is = drop_more xs i x h ∙ ap (λ (y : A). y ∷ drop (i + 1) xs) (sym at)

  front_is : take (i + 1) xs ≡ take i xs ++ x ∷ []
  front_is = take_more xs i x h ∙ ap (λ (y : A). take i xs ++ y ∷ []) (sym at)

  pub left_goes_on : left_of l xs i ≡ (l (take i xs)).spelling x ++ left_of l xs (i + 1)
  unfolding series item
  left_goes_on =
      let count = length xs - (i + 1) in
      let k : length xs - i ≡ suc count = omega arith in
      let one : (series l (suc count) (take i xs)).spelling (x ∷ drop (i + 1) xs) ≡ (l (take i xs)).spelling x ++ (series l count (take i xs ++ x ∷ [])).spelling (drop (i + 1) xs) = refl in
      ap (λ (n : ℕ). (series l n (take i xs)).spelling (drop i xs)) k ∙ ap (λ (ys : List A). (series l (suc count) (take i xs)).spelling ys) more_is
      ∙ one ∙ ap (λ (ys : List A). (l (take i xs)).spelling x ++ (series l count ys).spelling (drop (i + 1) xs)) (sym front_is)

  pub left_fits : LeftFits l xs i → (l (take i xs)).Fits x × LeftFits l xs (i + 1)
  unfolding series item
  left_fits fits =
      let k : length xs - i ≡ suc (length xs - (i + 1)) = omega arith in
      let here : (series l (suc (length xs - (i + 1))) (take i xs)).Fits (x ∷ drop (i + 1) xs) =
      subst (λ (n : ℕ). (series l n (take i xs)).Fits (x ∷ drop (i + 1) xs)) k (subst (λ (ys : List A). (series l (length xs - i) (take i xs)).Fits ys) more_is fits) in
      (here.0, subst (λ (ys : List A). (series l (length xs - (i + 1)) ys).Fits (drop (i + 1) xs)) (sym front_is) here.1)

pub left_done : {A : Type 0} (l : List A → Layout A) (xs : List A) (i : ℕ) → length xs ≤ i → left_of l xs i ≡ []
unfolding series made
left_done l xs i h = let k : length xs - i ≡ 0 = omega arith in ap (λ (n : ℕ). (series l n (take i xs)).spelling (drop i xs)) k

-- what a loop over a series keeps: what it wrote and what is left are the whole, and find room or not together
pub record SoFar (old now left text : List Bool) : Type 0 where
  pub done : List Bool
  pub wrote : Wrote old now done
  pub whole : text ≡ done ++ left

pub so_far_begins : (old text : List Bool) → length old ≤ room → SoFar old old text text
so_far_begins old text le = record { done = []; wrote = wrote_none old old refl le; whole = refl }

pub so_far_goes_on : (old now next first later text : List Bool) → SoFar old now (first ++ later) text → Wrote now next first → SoFar old next later text
so_far_goes_on old now next first later text s w = record {
  done = s.done ++ first;
  wrote = wrote_then old now next s.done first s.wrote w;
  whole = s.whole ∙ sym (append_assoc s.done first later);
}

pub so_far_stops : (old now next first later text : List Bool) → SoFar old now (first ++ later) text → Filled now next first → Filled old next text
so_far_stops old now next first later text s w = filled_as old next (s.done ++ (first ++ later)) text (sym s.whole) (filled_then old now next s.done (first ++ later) s.wrote (filled_first now next first later w))

pub so_far_ends : (old now text : List Bool) → SoFar old now [] text → Wrote old now text
so_far_ends old now text s = wrote_as old now s.done text (sym (s.whole ∙ append-nil s.done)) s.wrote
