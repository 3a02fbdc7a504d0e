-- Each layout is lawful: what reading gives is there, and what is there is what reading gives.
use Rattle.std.proofs.Common.{◌≡◌, ℕ, ◌+◌, ◌-◌, ◌^◌, ◌<◌, ◌≤◌, Bool, true, false, cond, eqb, leb, List, [], ◌∷◌, ◌++◌, length, take, drop, Result, Ok, Err, Option, Some, None, refl, sym, ap, subst, ◌∙◌, arith, ◌⊎◌, inl, inr}
use Rattle.std.proofs.lemmas.List.{length-append, length-take, length-drop}
use Rattle.std.proofs.lemmas.Bool.{leb-true, leb-false, le-leb, lt-leb}
use Rattle.std.specs.Prelude.{◌&&◌}
use Rattle.mlp_syntax.specs.declared.fault.Field.{Field}
use Rattle.mlp_syntax.specs.declared.fault.Broken.{Broken}
use Rattle.mlp_bits.specs.Bits.{bits, number}
use Rattle.mlp_bits.proofs.BitLists.{length-bits}
use Rattle.mlp_bits.proofs.ReadBack.{number-of, bits-number}
use Rattle.mlp_bits.proofs.Fields.{number-below}
use Rattle.mlp_layout.specs.Reading.{Read, ◌>>=◌, Stands, broken, short, number_at}
use Rattle.mlp_layout.specs.Layout.{Layout, Found, behind, Sound, IsLayout, HasOneReading, Rule, number_of, seen, spelling_as, FitsAs, MeetsAs, ruled, judged, tested, opening, whole, renamed, made, never, part, item, marked, next_is, sized}
use Rattle.mlp_layout.proofs.Standing.{Stands-nil, Stands-append, Stands-front, Stands-back, Stands-first, Stands-cut, Stands-uncut}

abbrev pub ok_of : {A : Type 0} → A → Result A Broken
ok_of x = Ok x

pub ok_is : {A : Type 0} (x y : A) → ok_of x ≡ ok_of y → x ≡ y
ok_is x y e = cc

err_is : {A : Type 0} (d e : Broken) → (let r : Result A Broken = Err d in r ≡ Err e) → d ≡ e
err_is d e h = cc

-- what reading then gives, by what it gave first
bound : {A B : Type 0} (r : Read A) (f : A × ℕ → Read B) (P : Read B → Type 0) → ((x : A × ℕ) → r ≡ Ok x → P (f x)) → ((e : Broken) → r ≡ Err e → P (Err e)) → P (r >>= f)
bound (Ok x) f P ok err = ok x refl
bound (Err e) f P ok err = err e refl

-- ---- by cases of what is read
module _ {A : Type 0} {l : Layout A} (h : IsLayout l) where
  pub is_found : (all : List Bool) (p : ℕ) → p ≤ length all → (x : A × ℕ) → l.read all p ≡ Ok x → Found l all p x.0 × (x.1 ≡ behind l p x.0)
  is_found all p le x e = subst (Sound l all p) e (h.sound all p le)

  pub is_failed : (all : List Bool) (p : ℕ) → p ≤ length all → (e : Broken) → l.read all p ≡ Err e → l.Fails all p e
  is_failed all p le d e = subst (Sound l all p) e (h.sound all p le)

pub is_within : {A : Type 0} (l : Layout A) (all : List Bool) (p : ℕ) (x : A) (q : ℕ) → Found l all p x → q ≡ behind l p x → q ≤ length all
is_within l all p x q f e = omega (arith, f.stands.within)

some_reading : {A : Type 0} (l : Layout A) (all : List Bool) (p : ℕ) (r : Read A) → Sound l all p r → ((x : A) × Found l all p x) ⊎ ((e : Broken) × l.Fails all p e)
some_reading l all p (Ok x) s = inl (x.0, s.0)
some_reading l all p (Err e) s = inr (e, s)

pub has_one_reading : {A : Type 0} {l : Layout A} → IsLayout l → (all : List Bool) (p : ℕ) → p ≤ length all → HasOneReading l all p
has_one_reading {l} h all p le = record {
  some = some_reading l all p (l.read all p) (h.sound all p le);
  not_both = λ x e f g. let a = h.found all p x f in let b = h.failed all p e g in absurd cc;
  one_value = λ x y f g. ap (λ (z : _ × ℕ). z.0) (ok_is (x, behind l p x) (y, behind l p y) (sym (h.found all p x f) ∙ h.found all p y g));
  one_fault = λ d e f g. err_is d e (sym (h.failed all p d f) ∙ h.failed all p e g);
}

-- ---- a number

number_there : (w : ℕ) (all : List Bool) (p : ℕ) (b : Bool) → leb (p + w) (length all) ≡ b → Sound (number_of w) all p (cond b (Ok (number (take w (drop p all)), p + w)) (Err (short p)))
unfolding number_of
number_there w all p true e =
    let text = take w (drop p all) in
    let within : p + w ≤ length all = leb-true _ _ e in
    let len : length text ≡ w = omega (arith, length-take w (drop p all), length-drop p all) in
    let same : bits w (number text) ≡ text = subst (λ (k : ℕ). bits k (number text) ≡ text) len (bits-number text) in (
      record {
        fits = subst (λ (k : ℕ). number text < 2 ^ k) len (number-below text);
        meets = tt;
        stands = record { within = omega (arith, length-bits w (number text)); text_is = rw (length-bits w (number text)) (sym same) };
      },
      omega (arith, length-bits w (number text)),
    )
number_there w all p false e = (leb-false (p + w) (length all) e, refl)

pub number_of_is : (w : ℕ) → IsLayout (number_of w)
unfolding number_of number_at
number_of_is w = record {
  sound = λ all p le. number_there w all p (leb (p + w) (length all)) refl;
  found = λ all p n f.
      let enough : leb (p + w) (length all) ≡ true = le-leb _ _ (omega (arith, f.stands.within, length-bits w n)) in
      let text : take w (drop p all) ≡ bits w n = subst (λ (k : ℕ). take k (drop p all) ≡ bits w n) (length-bits w n) f.stands.text_is in
      rw (enough, text, number-of w n f.fits) (ap (λ (k : ℕ). ok_of (n, p + k)) (sym (length-bits w n)));
  failed = λ all p e f. let less : leb (p + w) (length all) ≡ false = lt-leb _ _ f.0 in rw (less, f.1) refl;
}

-- ---- values seen as others

module _ {A B : Type 0} (into : A → B) (out : B → Option A) {l : Layout A} (h : IsLayout l) (back : (a : A) → l.Fits a → l.Meets a → out (into a) ≡ Some a) where
  seen_there : (all : List Bool) (p : ℕ) (a : A) (q : ℕ) → Found l all p a → q ≡ behind l p a → Sound (seen into out l) all p (Ok (into a, q))
  unfolding seen
  seen_there all p a q f at =
      let all-of = subst (λ (o : Option A). FitsAs into l.Fits o (into a) × MeetsAs l.Meets o × Stands all p (spelling_as l.spelling o) × (q ≡ p + length (spelling_as l.spelling o)))
      (sym (back a f.fits f.meets)) ((f.fits, refl), f.meets, f.stands, at) in
      (record { fits = all-of.0; meets = all-of.1; stands = all-of.2 }, all-of.3)

  seen_found : (all : List Bool) (p : ℕ) (b : B) (o : Option A) → FitsAs into l.Fits o b → MeetsAs l.Meets o
      → Stands all p (spelling_as l.spelling o) → (l.read all p >>= λ a. Ok (into a.0, a.1)) ≡ Ok (b, p + length (spelling_as l.spelling o))
  seen_found all p b None fits meets s = absurd fits
  seen_found all p b (Some a) fits meets s = rw (h.found all p a (record { fits = fits.0; meets = meets; stands = s })) (ap (λ (y : B). ok_of (y, behind l p a)) fits.1)

  pub seen_is : IsLayout (seen into out l)
  unfolding seen
  seen_is = record {
    sound = λ all p le. bound (l.read all p) (λ a. Ok (into a.0, a.1)) (Sound (seen into out l) all p)
        (λ a e. let f = is_found h all p le a e in seen_there all p a.0 a.1 f.0 f.1)
        (λ e r. is_failed h all p le e r);
    found = λ all p b f. seen_found all p b (out b) f.fits f.meets f.stands;
    failed = λ all p e f. rw (h.failed all p e f) refl;
  }

-- ---- rules

module _ {A : Type 0} (rule : Rule A) {l : Layout A} (h : IsLayout l) where
  judged_there : (all : List Bool) (p : ℕ) (x : A × ℕ) → Found l all p x.0 → x.1 ≡ behind l p x.0 → (o : Option ℕ) → rule.fails x.0 ≡ o → Sound (ruled rule l) all p (judged rule.field x p o)
  unfolding ruled
  judged_there all p x f at None e = (record { fits = f.fits; meets = (f.meets, e); stands = f.stands }, at)
  judged_there all p x f at (Some k) e = inr (x.0, k, f, e, refl)

  pub ruled_is : IsLayout (ruled rule l)
  unfolding ruled
  ruled_is = record {
    sound = λ all p le. bound (l.read all p) (λ x. judged rule.field x p (rule.fails x.0)) (Sound (ruled rule l) all p)
        (λ x e. let f = is_found h all p le x e in judged_there all p x f.0 f.1 (rule.fails x.0) refl)
        (λ e r. inl (is_failed h all p le e r));
    found = λ all p x f. rw (h.found all p x (record { fits = f.fits; meets = f.meets.0; stands = f.stands }), f.meets.1) refl;
    failed = λ all p e f. elim f [
      | inl g ↦ rw (h.failed all p e g) refl
      | inr g ↦ rw (h.found all p g.0 g.2, g.3, g.4) refl
    ];
  }

pub tested_is : {A : Type 0} (field : Field) (holds : Bool) {l : Layout A} → IsLayout l → IsLayout (tested field holds l)
unfolding tested
tested_is field holds {l} h = record {
  sound = λ all p le. tested_there all p le holds refl;
  found = λ all p x f. rw f.meets.0 (h.found all p x (record { fits = f.fits; meets = f.meets.1; stands = f.stands }));
  failed = λ all p e f. elim f [
    | inl g ↦ rw (g.0, g.1) refl
    | inr g ↦ rw g.0 (h.failed all p e g.1)
  ];
}
  where
    passed : (all : List Bool) (p : ℕ) → holds ≡ true → (r : Read _) → Sound l all p r → Sound (tested field holds l) all p r
    passed all p is (Ok x) s = (record { fits = s.0.fits; meets = (is, s.0.meets); stands = s.0.stands }, s.1)
    passed all p is (Err e) s = inr (is, s)

    tested_there : (all : List Bool) (p : ℕ) → p ≤ length all → (b : Bool) → holds ≡ b → Sound (tested field holds l) all p (cond b (l.read all p) (Err (broken field p)))
    tested_there all p le true is = passed all p is (l.read all p) (h.sound all p le)
    tested_there all p le false is = inl (is, refl)

pub opening_is : {A : Type 0} (width : ℕ) (field : Field) (holds : ℕ → Bool) {l : Layout A} → IsLayout l → ((x : A) → l.Fits x → width ≤ length (l.spelling x)) → IsLayout (opening width field holds l)
unfolding opening
opening_is {A} width field holds {l} h long = record {
  sound = λ all p le. opening_there all p le (holds (number (take width (drop p all)))) refl;
  found = λ all p x f.
      let same : holds (number (take width (drop p all))) ≡ true = ap (λ (t : List Bool). holds (number t)) (Stands-first all p width (l.spelling x) f.stands (long x f.fits)) ∙ f.meets.0 in
      rw same (h.found all p x (record { fits = f.fits; meets = f.meets.1; stands = f.stands }));
  failed = λ all p e f. elim f [
    | inl g ↦ rw (g.0, g.1) refl
    | inr g ↦ rw g.0 (h.failed all p e g.1)
  ];
}
  where
    passed : (all : List Bool) (p : ℕ) → holds (number (take width (drop p all))) ≡ true → (r : Read A) → Sound l all p r → Sound (opening width field holds l) all p r
    passed all p is (Ok x) s =
        let same : holds (number (take width (l.spelling x.0))) ≡ true = ap (λ (t : List Bool). holds (number t)) (sym (Stands-first all p width (l.spelling x.0) s.0.stands (long x.0 s.0.fits))) ∙ is in
        (record { fits = s.0.fits; meets = (same, s.0.meets); stands = s.0.stands }, s.1)
    passed all p is (Err e) s = inr (is, s)

    opening_there : (all : List Bool) (p : ℕ) → p ≤ length all → (b : Bool) → holds (number (take width (drop p all))) ≡ b → Sound (opening width field holds l) all p (cond b (l.read all p) (Err (broken field p)))
    opening_there all p le true is = passed all p is (l.read all p) (h.sound all p le)
    opening_there all p le false is = inl (is, refl)

pub whole_is : {A : Type 0} (field : Field) {l : Layout A} → IsLayout l → IsLayout (whole field l)
unfolding whole
whole_is field {l} h = record {
  sound = λ all p le. whole_there all p (l.read all p) (h.sound all p le);
  found = λ all p x f. rw (h.found all p x (record { fits = f.fits; meets = f.meets; stands = f.stands })) refl;
  failed = λ all p e f. rw (h.failed all p f.0.0 f.0.1, f.1) refl;
}
  where
    whole_there : (all : List Bool) (p : ℕ) (r : Read _) → Sound l all p r → Sound (whole field l) all p (renamed (broken field p) r)
    whole_there all p (Ok x) s = (record { fits = s.0.fits; meets = s.0.meets; stands = s.0.stands }, s.1)
    whole_there all p (Err d) s = ((d, s), refl)

-- ---- records

pub made_is : {R : Type 0} (it : R) → IsLayout (made it)
unfolding made
made_is it = record {
  sound = λ all p le. (record { fits = refl; meets = tt; stands = Stands-nil all p le }, omega arith);
  found = λ all p r f. let end : p ≡ p + 0 = omega arith in rw f.fits (ap (λ (k : ℕ). ok_of (it, k)) end);
  failed = λ all p e f. absurd f;
}

pub never_is : {A : Type 0} (field : Field) → IsLayout (never {A = A} field)
unfolding never
never_is field = record {
  sound = λ all p le. refl;
  found = λ all p x f. absurd f.fits;
  failed = λ all p e f. rw f refl;
}

module _ {A R : Type 0} (of_record : R → A) {first : Layout A} {rest : A → Layout R}
    (h : IsLayout first) (k : (a : A) → IsLayout (rest a)) (sets : (a : A) → first.Fits a → first.Meets a → (r : R) → (rest a).Fits r → of_record r ≡ a) where
  part_there : (all : List Bool) (p : ℕ) (a : A × ℕ) → Found first all p a.0 → a.1 ≡ behind first p a.0 → (r : Read R) → Sound (rest a.0) all a.1 r → Sound (part first of_record rest) all p r
  unfolding part
  part_there all p a f at (Ok u) s =
      let both : Stands all p (first.spelling a.0 ++ (rest a.0).spelling u.0) = Stands-append all p (first.spelling a.0) ((rest a.0).spelling u.0) f.stands (subst (λ (q : ℕ). Stands all q ((rest a.0).spelling u.0)) at s.0.stands) in
      let moved = subst (λ (b : A). (first.Fits b × (rest b).Fits u.0) × (first.Meets b × (rest b).Meets u.0)
      × Stands all p (first.spelling b ++ (rest b).spelling u.0) × (u.1 ≡ p + length (first.spelling b ++ (rest b).spelling u.0)))
      (sym (sets a.0 f.fits f.meets u.0 s.0.fits))
      ((f.fits, s.0.fits), (f.meets, s.0.meets), both, omega (arith, at, s.1, length-append (first.spelling a.0) ((rest a.0).spelling u.0))) in
      (record { fits = moved.0; meets = moved.1; stands = moved.2 }, moved.3)
  part_there all p a f at (Err e) s = inr (a.0, f, subst (λ (q : ℕ). (rest a.0).Fails all q e) at s)

  pub part_is : IsLayout (part first of_record rest)
  unfolding part
  part_is = record {
    sound = λ all p le. bound (first.read all p) (λ a. (rest a.0).read all a.1) (Sound (part first of_record rest) all p)
        (λ a e. let f = is_found h all p le a e in part_there all p a f.0 f.1 ((rest a.0).read all a.1) ((k a.0).sound all a.1 (is_within first all p a.0 a.1 f.0 f.1)))
        (λ e r. inl (is_failed h all p le e r));
    found = λ all p r f.
        let a = of_record r in
        let one = h.found all p a (record { fits = f.fits.0; meets = f.meets.0; stands = Stands-front all p (first.spelling a) ((rest a).spelling r) f.stands }) in
        let two = (k a).found all (behind first p a) r (record { fits = f.fits.1; meets = f.meets.1; stands = Stands-back all p (first.spelling a) ((rest a).spelling r) f.stands }) in
        let end : p + length (first.spelling a) + length ((rest a).spelling r) ≡ p + length (first.spelling a ++ (rest a).spelling r) = omega (arith, length-append (first.spelling a) ((rest a).spelling r)) in
        rw (one, two) (ap (λ (j : ℕ). ok_of (r, j)) end);
    failed = λ all p e f. elim f [
      | inl g ↦ rw (h.failed all p e g) refl
      | inr g ↦ rw (h.found all p g.0 g.1) ((k g.0).failed all (behind first p g.0) e g.2)
    ];
  }

-- ---- lists

module _ {A : Type 0} {first : Layout A} {rest : A → Layout (List A)} (h : IsLayout first) (k : (a : A) → IsLayout (rest a)) where
  item_there : (all : List Bool) (p : ℕ) (x : A × ℕ) → Found first all p x.0 → x.1 ≡ behind first p x.0
      → (r : Read (List A)) → Sound (rest x.0) all x.1 r → Sound (item first rest) all p (r >>= λ xs. Ok (x.0 ∷ xs.0, xs.1))
  unfolding item
  item_there all p x f at (Ok u) s =
      let both : Stands all p (first.spelling x.0 ++ (rest x.0).spelling u.0) = Stands-append all p (first.spelling x.0) ((rest x.0).spelling u.0) f.stands (subst (λ (q : ℕ). Stands all q ((rest x.0).spelling u.0)) at s.0.stands) in
      (record { fits = (f.fits, s.0.fits); meets = (f.meets, s.0.meets); stands = both }, omega (arith, at, s.1, length-append (first.spelling x.0) ((rest x.0).spelling u.0)))
  item_there all p x f at (Err e) s = inr (x.0, f, subst (λ (q : ℕ). (rest x.0).Fails all q e) at s)

  item_found : (all : List Bool) (p : ℕ) (xs : List A) → Found (item first rest) all p xs → (item first rest).read all p ≡ Ok (xs, behind (item first rest) p xs)
  unfolding item
  item_found all p [] f = absurd f.fits
  item_found all p (x ∷ xs) f =
      let one = h.found all p x (record { fits = f.fits.0; meets = f.meets.0; stands = Stands-front all p (first.spelling x) ((rest x).spelling xs) f.stands }) in
      let two = (k x).found all (behind first p x) xs (record { fits = f.fits.1; meets = f.meets.1; stands = Stands-back all p (first.spelling x) ((rest x).spelling xs) f.stands }) in
      let end : p + length (first.spelling x) + length ((rest x).spelling xs) ≡ p + length (first.spelling x ++ (rest x).spelling xs) = omega (arith, length-append (first.spelling x) ((rest x).spelling xs)) in
      rw (one, two) (ap (λ (j : ℕ). ok_of (x ∷ xs, j)) end)

  pub item_is : IsLayout (item first rest)
  unfolding item
  item_is = record {
    sound = λ all p le. bound (first.read all p) (λ x. (rest x.0).read all x.1 >>= λ xs. Ok (x.0 ∷ xs.0, xs.1)) (Sound (item first rest) all p)
        (λ x e. let f = is_found h all p le x e in item_there all p x f.0 f.1 ((rest x.0).read all x.1) ((k x.0).sound all x.1 (is_within first all p x.0 x.1 f.0 f.1)))
        (λ e r. inl (is_failed h all p le e r));
    found = item_found;
    failed = λ all p e f. elim f [
      | inl g ↦ rw (h.failed all p e g) refl
      | inr g ↦ rw (h.found all p g.0 g.1, (k g.0).failed all (behind first p g.0) e g.2) refl
    ];
  }

-- ---- a part that the next bits mark

module _ {R : Type 0} (room : Bool) (width value : ℕ) (is_there : R → Bool) {l : Bool → Layout R} (h : (b : Bool) → IsLayout (l b)) (there : (b : Bool) (r : R) → (l b).Fits r → is_there r ≡ b)
    (long : room ≡ true → (b : Bool) (r : R) → (l b).Fits r → width ≤ length ((l b).spelling r)) where
  same_next : (b : Bool) (all : List Bool) (p : ℕ) (r : R) → Found (l b) all p r → (c : Bool) → room ≡ c → (c && next_is width value (drop p all)) ≡ (c && next_is width value ((l b).spelling r))
  same_next b all p r f true e = ap (λ (t : List Bool). eqb (number t) value) (Stands-first all p width ((l b).spelling r) f.stands (long e b r f.fits))
  same_next b all p r f false e = refl

  marked_there : (all : List Bool) (p : ℕ) (b : Bool) → b ≡ (room && next_is width value (drop p all)) → (r : Read R) → Sound (l b) all p r → Sound (marked room width value is_there l) all p r
  unfolding marked
  marked_there all p b is (Ok x) s =
      let moved = subst (λ (c : Bool). ((l c).Fits x.0 × (c ≡ (room && next_is width value ((l c).spelling x.0)))) × (l c).Meets x.0
      × Stands all p ((l c).spelling x.0) × (x.1 ≡ p + length ((l c).spelling x.0))) (sym (there b x.0 s.0.fits))
      ((s.0.fits, is ∙ same_next b all p x.0 s.0 room refl), s.0.meets, s.0.stands, s.1) in
      (record { fits = moved.0; meets = moved.1; stands = moved.2 }, moved.3)
  marked_there all p b is (Err e) s = subst (λ (c : Bool). (l c).Fails all p e) is s

  pub marked_is : IsLayout (marked room width value is_there l)
  unfolding marked
  marked_is = record {
    sound = λ all p le. let b = room && next_is width value (drop p all) in marked_there all p b refl ((l b).read all p) ((h b).sound all p le);
    found = λ all p r f.
        let inner : Found (l (is_there r)) all p r = record { fits = f.fits.0; meets = f.meets; stands = f.stands } in
        let same : is_there r ≡ (room && next_is width value (drop p all)) = f.fits.1 ∙ sym (same_next (is_there r) all p r inner room refl) in
        subst (λ (c : Bool). (l c).read all p ≡ Ok (r, p + length ((l (is_there r)).spelling r))) same ((h (is_there r)).found all p r inner);
    failed = λ all p e f. (h (room && next_is width value (drop p all))).failed all p e f;
  }

-- ---- a value of a known size

module _ {A : Type 0} (size : ℕ) (field : Field) (back : ℕ) {l : Layout A} (h : IsLayout l) (full : (x : A) → l.Fits x → size ≤ length (l.spelling x)) where
  sized_passed : (all : List Bool) (p : ℕ) → p + size ≤ length all → (r : Read A) → Sound l (take (p + size) all) p r → Sound (sized size field back l) all p r
  unfolding sized
  sized_passed all p room (Ok x) s =
      let u = Stands-uncut all p size (l.spelling x.0) room s.0.stands in
      (record { fits = (s.0.fits, omega (arith, u.1, full x.0 s.0.fits)); meets = s.0.meets; stands = u.0 }, s.1)
  sized_passed all p room (Err e) s = inr (room, s)

  sized_there : (all : List Bool) (p : ℕ) (b : Bool) → leb (p + size) (length all) ≡ b → Sound (sized size field back l) all p (cond b (l.read (take (p + size) all) p) (Err (broken field (p - back))))
  unfolding sized
  sized_there all p true e =
      let room : p + size ≤ length all = leb-true _ _ e in
      sized_passed all p room (l.read (take (p + size) all) p) (h.sound (take (p + size) all) p (omega (arith, length-take (p + size) all)))
  sized_there all p false e = inl (leb-false (p + size) (length all) e, refl)

  pub sized_is : IsLayout (sized size field back l)
  unfolding sized
  sized_is = record {
    sound = λ all p le. sized_there all p (leb (p + size) (length all)) refl;
    found = λ all p x f.
        let room : p + size ≤ length all = omega (arith, f.stands.within, f.fits.1) in
        let enough : leb (p + size) (length all) ≡ true = le-leb _ _ room in
        let small : length (l.spelling x) ≤ size = omega (arith, f.fits.1) in
        rw enough (h.found (take (p + size) all) p x (record { fits = f.fits.0; meets = f.meets; stands = Stands-cut all p size (l.spelling x) room small f.stands }));
    failed = λ all p e f. elim f [
      | inl g ↦ let less : leb (p + size) (length all) ≡ false = lt-leb _ _ g.0 in rw (less, g.1) refl
      | inr g ↦ let enough : leb (p + size) (length all) ≡ true = le-leb _ _ g.0 in rw enough (h.failed (take (p + size) all) p e g.1)
    ];
  }
