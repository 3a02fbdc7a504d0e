-- The layouts made of the simple ones are lawful.
use Rattle.std.proofs.Common.{◌≡◌, ℕ, zero, suc, ◌*◌, ◌-◌, ◌/◌, ◌^◌, ◌<◌, Bool, true, false, cond, eqb, ltb, List, [], ◌∷◌, ◌++◌, length, Option, Some, None, refl, sym, ap, ◌∙◌, arith, inl, inr, pow-suc}
use Rattle.std.proofs.lemmas.Bool.{cases_lt, lt-ltb, le-ltb, eqb-true}
use Rattle.std.specs.Prelude.{is_some}
use Rattle.mlp_syntax.specs.declared.fault.Field.{Field}
use Rattle.mlp_bits.specs.Bits.{digit}
use Rattle.mlp_layout.specs.Layout.{Layout, IsLayout, Rule, number_of, seen, ruled, tested, made, never, part, item}
use Rattle.mlp_layout.specs.Combined.{under, flag, signed_of, fixed, checked, chosen, present, group, times, series, is_empty, up_to_last}
use Rattle.mlp_bits.specs.Signed.{signed, unsigned}
use Rattle.mlp_layout.proofs.LayoutLaws.{number_of_is, seen_is, ruled_is, tested_is, whole_is, made_is, never_is, part_is, item_is}

-- ---- rules

pub under_is : {A : Type 0} (rules : List (Rule A)) {l : Layout A} → IsLayout l → IsLayout (under rules l)
unfolding under
under_is [] h = h
under_is (rule ∷ rules) h = under_is rules (ruled_is rule h)

-- ---- bits and signed numbers

abbrev some : {A : Type 0} → A → Option A
some x = Some x

bit_back : (n : ℕ) → n < 2 ^ 1 → some (digit (eqb n 1)) ≡ Some n
bit_back zero h = refl
bit_back (suc zero) h = refl
bit_back (suc (suc n)) h = absurd (omega arith)

pub flag_is : IsLayout flag
unfolding flag number_of
flag_is = seen_is _ _ (number_of_is 1) (λ n fits meets. bit_back n fits)

signed_back : (w n : ℕ) → n < 2 ^ w → unsigned w (signed w n) ≡ Some n
signed_back zero n h = let e : n ≡ 0 = omega arith in rw e refl
signed_back (suc w) n h =
    let two : 2 ^ suc w ≡ 2 ^ w * 2 = pow-suc 2 w in
    let less : 2 ^ (suc w - 1) ≡ 2 ^ w = ap (λ (k : ℕ). 2 ^ k) (let e : suc w - 1 ≡ w = omega arith in e) in
    elim (cases_lt n (2 ^ (suc w - 1))) [
      | inl lt ↦ rw (lt-ltb n (2 ^ (suc w - 1)) lt, lt-ltb n (2 ^ (suc w - 1)) lt) refl
      | inr le ↦
          let m = 2 ^ suc w - suc n in
          let small : ltb m (2 ^ suc w / 2) ≡ true = lt-ltb m (2 ^ suc w / 2) (omega arith) in
          let same : 2 ^ suc w - suc m ≡ n = omega arith in
          rw (le-ltb n (2 ^ (suc w - 1)) le, small) (ap some same)
    ]

pub signed_of_is : (w : ℕ) → IsLayout (signed_of w)
unfolding signed_of number_of
signed_of_is w = seen_is _ _ (number_of_is w) (λ n fits meets. signed_back w n fits)

-- ---- fixed bits and checks

-- a rule that a number be this one
pub must_is : (v n at : ℕ) → cond {A = Option ℕ} (eqb n v) None (Some at) ≡ None → v ≡ n
must_is v n at e = by_case (eqb n v) refl e
  where
    by_case : (b : Bool) → eqb n v ≡ b → cond {A = Option ℕ} b None (Some at) ≡ None → v ≡ n
    by_case true is e = sym (eqb-true _ _ is)
    by_case false is e = absurd cc

pub fixed_is : {A : Type 0} (w v : ℕ) (field : Field) {rest : Layout A} → IsLayout rest → IsLayout (fixed w v field rest)
unfolding fixed ruled
fixed_is w v field h = part_is _ (ruled_is _ (number_of_is w)) (λ n. h) (λ n fits meets r _. must_is v n 0 meets.1)

pub checked_is : {A : Type 0} (w : ℕ) (check : List Bool → ℕ) (field : Field) {l : Layout A} → IsLayout l → IsLayout (checked w check field l)
unfolding checked fixed part made
checked_is w check field {l} h = part_is _ h (λ x. fixed_is w (check (l.spelling x)) field (made_is x)) (λ x fits meets r f. f.1)

-- ---- choices

pub chosen_is : {A : Type 0} (b : Bool) {l m : Layout A} → (b ≡ true → IsLayout l) → (b ≡ false → IsLayout m) → IsLayout (chosen b l m)
unfolding chosen
chosen_is true h k = h refl
chosen_is false h k = k refl

pub present_is : {A : Type 0} (there : Bool) {l : Layout A} → (there ≡ true → IsLayout l) → IsLayout (present there l)
unfolding present
present_is there h = chosen_is there (λ e. seen_is _ _ (h e) (λ a fits meets. refl)) (λ e. made_is None)

fits_there : {A : Type 0} (there : Bool) (l : Layout A) (o : Option A) → (present there l).Fits o → is_some o ≡ there
unfolding present chosen seen made
fits_there true l None h = absurd h
fits_there true l (Some x) h = refl
fits_there false l None h = refl
fits_there false l (Some x) h = absurd cc

pub group_is : {A : Type 0} (there : Bool) {l : Layout A} → IsLayout l → IsLayout (group there l)
unfolding group
group_is there {l} h = chosen_is there (λ e. part_is _ flag_is (λ b. present_is b (λ is. h)) (λ b fits meets o f. fits_there b l o f)) (λ e. made_is None)

-- ---- what the rest of a record fixes

pub made_sets : {A R : Type 0} (of_record : R → A) (it : R) (a : A) → of_record it ≡ a → (r : R) → (made it).Fits r → of_record r ≡ a
unfolding made
made_sets of_record it a h r fits = ap of_record fits ∙ h

pub part_sets : {A B R : Type 0} (of_record : R → A) (a : A) (first : Layout B) (of_other : R → B) (rest : B → Layout R)
    → ((b : B) (r : R) → (rest b).Fits r → of_record r ≡ a) → (r : R) → (part first of_other rest).Fits r → of_record r ≡ a
unfolding part
part_sets of_record a first of_other rest h r fits = h (of_other r) r fits.1

pub fixed_sets : {A R : Type 0} (of_record : R → A) (a : A) (w v : ℕ) (field : Field) (rest : Layout R) → ((r : R) → rest.Fits r → of_record r ≡ a) → (r : R) → (fixed w v field rest).Fits r → of_record r ≡ a
unfolding fixed part
fixed_sets of_record a w v field rest h r fits = h r fits.1

pub tested_sets : {A R : Type 0} (of_record : R → A) (a : A) (field : Field) (holds : Bool) (l : Layout R) → ((r : R) → l.Fits r → of_record r ≡ a) → (r : R) → (tested field holds l).Fits r → of_record r ≡ a
unfolding tested
tested_sets of_record a field holds l h r fits = h r fits

pub chosen_sets : {A R : Type 0} (of_record : R → A) (a : A) (b : Bool) (l m : Layout R) → (b ≡ true → (r : R) → l.Fits r → of_record r ≡ a)
    → (b ≡ false → (r : R) → m.Fits r → of_record r ≡ a) → (r : R) → (chosen b l m).Fits r → of_record r ≡ a
unfolding chosen
chosen_sets of_record a true l m h k r fits = h refl r fits
chosen_sets of_record a false l m h k r fits = k refl r fits

-- ---- lists

pub times_is : {A : Type 0} (n : ℕ) {l : Layout A} → IsLayout l → IsLayout (times n l)
unfolding times
times_is zero h = made_is []
times_is (suc n) h = item_is h (λ x. times_is n h)

pub times_count : {A : Type 0} (n : ℕ) (l : Layout A) (xs : List A) → (times n l).Fits xs → length xs ≡ n
unfolding times made item
times_count zero l xs h = ap length h
times_count (suc n) l [] h = absurd h
times_count (suc n) l (x ∷ xs) h = ap suc (times_count n l xs h.1)

pub series_is : {A : Type 0} (n : ℕ) (before : List A) {l : List A → Layout A} → ((before : List A) → IsLayout (l before)) → IsLayout (series l n before)
unfolding series
series_is zero before h = made_is []
series_is (suc n) before h = item_is (h before) (λ x. series_is n (before ++ x ∷ []) h)

module _ {S A : Type 0} (value : S → Layout A) (after : S → A → S) (field : Field) (h : (s : S) → IsLayout (value s)) where
  some_last : (n : ℕ) (s : S) (xs : List A) → (up_to_last value after field n s).Fits xs → is_empty xs ≡ false
  unfolding up_to_last never item
  some_last zero s xs fits = absurd fits
  some_last (suc n) s [] fits = absurd fits
  some_last (suc n) s (x ∷ xs) fits = refl

  pub up_to_last_is : (n : ℕ) (s : S) → IsLayout (up_to_last value after field n s)
  unfolding up_to_last
  up_to_last_is zero s = never_is field
  up_to_last_is (suc n) s = item_is (h s) (λ x.
      part_is _ flag_is
      (λ last. chosen_is last (λ e. made_is []) (λ e. up_to_last_is n (after s x)))
      (λ last fits meets. chosen_sets _ last last (made []) (up_to_last value after field n (after s x)) (λ e. made_sets _ [] last (sym e)) (λ e xs f. some_last n (after s x) xs f ∙ sym e)))

series_count : {A : Type 0} (n : ℕ) (before : List A) (l : List A → Layout A) (xs : List A) → (series l n before).Fits xs → length xs ≡ n
unfolding series made item
series_count zero before l xs h = ap length h
series_count (suc n) before l [] h = absurd h
series_count (suc n) before l (x ∷ xs) h = ap suc (series_count n (before ++ x ∷ []) l xs h.1)

-- how long a series is, and whether a value is there, is what was read before
pub series_sets : {A R : Type 0} (of_record : R → List A) (n : ℕ) (before : List A) (l : List A → Layout A) (rest : List A → Layout R) (r : R) → (part (series l n before) of_record rest).Fits r → length (of_record r) ≡ n
unfolding part
series_sets of_record n before l rest r fits = series_count n before l (of_record r) fits.0

pub times_sets : {A R : Type 0} (of_record : R → List A) (n : ℕ) (l : Layout A) (rest : List A → Layout R) (r : R) → (part (times n l) of_record rest).Fits r → length (of_record r) ≡ n
unfolding part
times_sets of_record n l rest r fits = times_count n l (of_record r) fits.0

pub present_sets : {A R : Type 0} (of_record : R → Option A) (there : Bool) (l : Layout A) (rest : Option A → Layout R) (r : R) → (part (present there l) of_record rest).Fits r → is_some (of_record r) ≡ there
unfolding part
present_sets of_record there l rest r fits = fits_there there l (of_record r) fits.0

pub ruleset layouts = (
  number_of_is,
  seen_is,
  ruled_is,
  tested_is,
  whole_is,
  made_is,
  part_is,
  item_is,
  under_is,
  flag_is,
  signed_of_is,
  fixed_is,
  checked_is,
  chosen_is,
  present_is,
  group_is,
  times_is,
  series_is,
  made_sets,
  part_sets,
  fixed_sets,
  tested_sets,
  chosen_sets,
  times_sets,
  series_sets,
  present_sets,
)
