-- Tails and whole texts are lawful.
use Rattle.std.proofs.Common.{◌≡◌, ◌≢◌, ℕ, ◌+◌, ◌-◌, ◌^◌, ◌<◌, ◌≤◌, Bool, true, false, cond, eqb, leb, List, ◌++◌, length, take, drop, Result, Ok, Err, Option, Some, None, refl, sym, ap, subst, ◌∙◌, arith, inl, inr}
use Rattle.std.proofs.lemmas.List.{length-append, length-take, length-drop, take_all, take_at, drop_at, take-append-drop, drop-drop}
use Rattle.std.proofs.lemmas.Bool.{eqb-true, eq-eqb, ne_eqb, le-leb, lt-leb, leb-true, leb-false}
use Rattle.mlp_syntax.specs.declared.fault.Field.{Field}
use Rattle.mlp_syntax.specs.declared.fault.Field.TheVariants as rule
use Rattle.mlp_syntax.specs.declared.fault.Broken.{Broken}
use Rattle.mlp_bits.specs.Bits.{bits, number}
use Rattle.mlp_bits.proofs.BitLists.{length-bits}
use Rattle.mlp_bits.proofs.ReadBack.{number-of, bits-number}
use Rattle.mlp_layout.specs.Reading.{Read, Stands, broken, short}
use Rattle.mlp_layout.specs.Layout.{Layout, IsLayout, Found, behind, spelling_as, MeetsAs}
use Rattle.mlp_layout.specs.Tails.{Tail, FoundTail, then_tail, part_tail, placed, ending, ending_read, Whole, FoundWhole, whole_text, EndJudge, end_read, then_judge, judged_at_end}
use Rattle.mlp_layout.specs.Tails.{byte_at, checked_part, parity_is, check_is, checked_read, checked_first, chosen_whole, SoundTail, IsTail, SoundWhole, IsWhole}
use Rattle.mlp_layout.proofs.LayoutLaws.{is_found, is_failed, is_within}
use Rattle.mlp_layout.proofs.Standing.{Stands-append, Stands-front, Stands-back}

abbrev done : {R : Type 0} → R → Result R Broken
done r = Ok r

-- what reading then gives, by what it gave first
tail_bound : {A R : Type 0} (r : Read A) (f : A × ℕ → Result R Broken) (P : Result R Broken → Type 0) → ((x : A × ℕ) → r ≡ Ok x → P (f x)) → ((e : Broken) → r ≡ Err e → P (Err e)) → P (then_tail r f)
tail_bound (Ok x) f P ok err = ok x refl
tail_bound (Err e) f P ok err = err e refl

not_equal : (m n : ℕ) → eqb m n ≡ false → m ≢ n
not_equal m n e h = let t = eq-eqb m n h in absurd cc

-- ---- tails

module _ {A R : Type 0} (of_record : R → A) {first : Layout A} {rest : A → Tail R}
    (h : IsLayout first) (k : (a : A) → IsTail (rest a)) (sets : (a : A) (place : ℕ) (r : R) → first.Fits a → (rest a).Fits place r → of_record r ≡ a) where
  part_tail_there : (all : List Bool) (p : ℕ) (a : A × ℕ) → Found first all p a.0 → a.1 ≡ behind first p a.0 → (r : Result R Broken) → SoundTail (rest a.0) all a.1 r → SoundTail (part_tail first of_record rest) all p r
  unfolding part_tail
  part_tail_there all p a f at (Ok u) s =
      let text = first.spelling a.0 in
      let v : FoundTail (rest a.0) all (p + length text) u = subst (λ (q : ℕ). FoundTail (rest a.0) all q u) at s in
      let parts : (first.Fits a.0 × (rest a.0).Fits (p + length text) u) × (first.Meets a.0 × (rest a.0).Meets (p + length text) u)
      × Stands all p (text ++ (rest a.0).spelling (p + length text) u) × (length all ≡ p + length (text ++ (rest a.0).spelling (p + length text) u)) =
      ((f.fits, v.fits), (f.meets, v.meets), Stands-append all p text ((rest a.0).spelling (p + length text) u) f.stands v.stands, omega (arith, v.ends, length-append text ((rest a.0).spelling (p + length text) u))) in
      let here = subst (λ (b : A). (first.Fits b × (rest b).Fits (p + length (first.spelling b)) u)
      × (first.Meets b × (rest b).Meets (p + length (first.spelling b)) u) × Stands all p (first.spelling b ++ (rest b).spelling (p + length (first.spelling b)) u)
      × (length all ≡ p + length (first.spelling b ++ (rest b).spelling (p + length (first.spelling b)) u))) (sym (sets a.0 (p + length text) u f.fits v.fits)) parts in
      record { fits = here.0; meets = here.1; stands = here.2; ends = here.3 }
  part_tail_there all p a f at (Err e) s = inr (a.0, f, subst (λ (q : ℕ). (rest a.0).Fails all q e) at s)

  pub part_tail_is : IsTail (part_tail first of_record rest)
  unfolding part_tail
  part_tail_is = record {
    sound = λ all p le. tail_bound (first.read all p) (λ a. (rest a.0).read all a.1) (SoundTail (part_tail first of_record rest) all p)
        (λ a e. let f = is_found h all p le a e in part_tail_there all p a f.0 f.1 ((rest a.0).read all a.1) ((k a.0).sound all a.1 (is_within first all p a.0 a.1 f.0 f.1)))
        (λ e r. inl (is_failed h all p le e r));
    found = λ all p r t.
        let a = of_record r in
        let one = h.found all p a (record { fits = t.fits.0; meets = t.meets.0; stands = Stands-front all p (first.spelling a) ((rest a).spelling (p + length (first.spelling a)) r) t.stands }) in
        let two = (k a).found all (p + length (first.spelling a)) r (record {
          fits = t.fits.1;
          meets = t.meets.1;
          stands = Stands-back all p (first.spelling a) ((rest a).spelling (p + length (first.spelling a)) r) t.stands;
          ends = omega (arith, t.ends, length-append (first.spelling a) ((rest a).spelling (p + length (first.spelling a)) r));
        }) in
        rw one two;
    failed = λ all p e f. elim f [
      | inl g ↦ rw (h.failed all p e g) refl
      | inr g ↦ rw (h.found all p g.0 g.1) ((k g.0).failed all (p + length (first.spelling g.0)) e g.2)
    ];
  }

module _ {R : Type 0} {tail : ℕ → Tail R} (h : (place : ℕ) → IsTail (tail place)) where
  placed_there : (all : List Bool) (p : ℕ) (r : Result R Broken) → SoundTail (tail p) all p r → SoundTail (placed tail) all p r
  unfolding placed
  placed_there all p (Ok r) t = record { fits = t.fits; meets = t.meets; stands = t.stands; ends = t.ends }
  placed_there all p (Err e) t = t

  pub placed_is : IsTail (placed tail)
  unfolding placed
  placed_is = record {
    sound = λ all p le. placed_there all p ((tail p).read all p) ((h p).sound all p le);
    found = λ all p r t. (h p).found all p r (record { fits = t.fits; meets = t.meets; stands = t.stands; ends = t.ends });
    failed = λ all p e f. (h p).failed all p e f;
  }

module _ {T R : Type 0} (field : Field) (width : ℕ) (some : 0 < width) {last : Layout T} (h : IsLayout last) (of_record : R → Option T)
    (made : Option T → R) (back : (o : Option T) → of_record (made o) ≡ o) (long : (t : T) → last.Fits t → length (last.spelling t) ≡ width) where
  EndFound : List Bool → ℕ → R → Option T → Type 0
  EndFound all p r o = (MeetsAs last.Fits o × (made o ≡ r)) × MeetsAs last.Meets o × Stands all p (spelling_as last.spelling o) × (length all ≡ p + length (spelling_as last.spelling o))

  end_found : (all : List Bool) (p : ℕ) (o : Option T) → EndFound all p (made o) o → SoundTail (ending field width last of_record made) all p (Ok (made o))
  unfolding ending EndFound
  end_found all p o t =
      let moved = subst (λ (q : Option T). EndFound all p (made o) q) (sym (back o)) t in
      record { fits = moved.0; meets = moved.1; stands = moved.2; ends = moved.3 }

  end_there : (all : List Bool) (p : ℕ) (none there : Bool) → eqb (length all) p ≡ none → eqb (length all) (p + width) ≡ there
      → SoundTail (ending field width last of_record made) all p (cond none (Ok (made None)) (cond there (then_tail (last.read all p) (λ t. Ok (made (Some t.0)))) (Err (broken field p))))
  unfolding ending EndFound
  end_there all p true there z w =
      let end = eqb-true (length all) p z in
      end_found all p None ((tt, refl), tt, record { within = omega (arith, end); text_is = refl }, omega (arith, end))
  end_there all p false false z w = (not_equal (length all) p z, inl (not_equal (length all) (p + width) w, refl))
  end_there all p false true z w =
      let end = eqb-true (length all) (p + width) w in
      let le : p ≤ length all = omega (arith, end) in
      tail_bound (last.read all p) (λ t. Ok (made (Some t.0))) (SoundTail (ending field width last of_record made) all p)
      (λ t e. let f = is_found h all p le t e in end_found all p (Some t.0) ((f.0.fits, refl), f.0.meets, f.0.stands, omega (arith, end, long t.0 f.0.fits)))
      (λ e r. (not_equal (length all) p z, inr (end, is_failed h all p le e r)))

  end_again : (all : List Bool) (p : ℕ) (r : R) (o : Option T) → EndFound all p r o → ending_read field width last made all p ≡ Ok r
  unfolding EndFound
  end_again all p r None t =
      let none : eqb (length all) p ≡ true = eq-eqb _ _ (omega (arith, t.3)) in
      rw none (ap done t.0.1)
  end_again all p r (Some x) t =
      let size = long x t.0.0 in
      let some-left : eqb (length all) p ≡ false = ne_eqb _ _ (omega (arith, size, t.3)) in
      let there : eqb (length all) (p + width) ≡ true = eq-eqb _ _ (omega (arith, size, t.3)) in
      rw (some-left, there, h.found all p x (record { fits = t.0.0; meets = t.1; stands = t.2 })) (ap done t.0.1)

  pub ending_is : IsTail (ending field width last of_record made)
  unfolding ending EndFound
  ending_is = record {
    sound = λ all p le. end_there all p (eqb (length all) p) (eqb (length all) (p + width)) refl refl;
    found = λ all p r t. end_again all p r (of_record r) (t.fits, t.meets, t.stands, t.ends);
    failed = λ all p e f. let none : eqb (length all) p ≡ false = ne_eqb _ _ f.0 in elim f.1 [
      | inl g ↦ let off : eqb (length all) (p + width) ≡ false = ne_eqb _ _ g.0 in rw (none, off, g.1) refl
      | inr g ↦ let there : eqb (length all) (p + width) ≡ true = eq-eqb _ _ g.0 in rw (none, there, h.failed all p e g.1) refl
    ];
  }

-- ---- whole texts

-- what stands at the first place and ends where the bits end is all of them
all_of : (all text : List Bool) → Stands all 0 text → length all ≡ 0 + length text → all ≡ text
all_of all text s e = let z : 0 + length text ≡ length text = omega arith in sym (take_all (length text) all (omega arith)) ∙ s.text_is

stands_itself : (text : List Bool) → Stands text 0 text
stands_itself text = record { within = omega arith; text_is = take_all (length text) text (omega arith) }

module _ {R : Type 0} {t : Tail R} (h : IsTail t) where
  whole_there : (all : List Bool) (r : Result R Broken) → SoundTail t all 0 r → SoundWhole (whole_text t) all r
  unfolding whole_text
  whole_there all (Ok r) u = record { fits = u.fits; meets = u.meets; text_is = all_of all (t.spelling 0 r) u.stands u.ends }
  whole_there all (Err e) u = u

  whole_found : (all : List Bool) (r : R) → t.Fits 0 r → t.Meets 0 r → all ≡ t.spelling 0 r → FoundTail t all 0 r
  whole_found all r fits meets e = record {
    fits = fits;
    meets = meets;
    stands = subst (λ (b : List Bool). Stands b 0 (t.spelling 0 r)) (sym e) (stands_itself (t.spelling 0 r));
    ends = let n = ap (λ (b : List Bool). length b) e in omega (arith, n);
  }

  pub whole_text_is : IsWhole (whole_text t)
  unfolding whole_text
  whole_text_is = record {
    sound = λ all. whole_there all (t.read all 0) (h.sound all 0 (omega arith));
    found = λ all r f. h.found all 0 r (whole_found all r f.fits f.meets f.text_is);
    failed = λ all e f. h.failed all 0 e f;
  }

module _ {R : Type 0} (judge : EndJudge R) {w : Whole R} (h : IsWhole w) where
  judge_there : (all : List Bool) (r : R) → FoundWhole w all r → (o : Option (Field × ℕ)) → judge (length all) r ≡ o → SoundWhole (judged_at_end judge w) all (end_read o r)
  unfolding judged_at_end
  judge_there all r f None e = record { fits = f.fits; meets = (f.meets, ap (λ (b : List Bool). judge (length b) r) (sym f.text_is) ∙ e); text_is = f.text_is }
  judge_there all r f (Some b) e = inr (r, b, f, e, refl)

  judged_there : (all : List Bool) (x : Result R Broken) → SoundWhole w all x → SoundWhole (judged_at_end judge w) all (then_judge x (judge (length all)))
  unfolding judged_at_end
  judged_there all (Ok r) f = judge_there all r f (judge (length all) r) refl
  judged_there all (Err e) f = inl f

  pub judged_at_end_is : IsWhole (judged_at_end judge w)
  unfolding judged_at_end
  judged_at_end_is = record {
    sound = λ all. judged_there all (w.read all) (h.sound all);
    found = λ all r f.
        let met : judge (length all) r ≡ None = ap (λ (b : List Bool). judge (length b) r) f.text_is ∙ f.meets.1 in
        rw (h.found all r (record { fits = f.fits; meets = f.meets.0; text_is = f.text_is }), met) refl;
    failed = λ all e f. elim f [
      | inl g ↦ rw (h.failed all e g) refl
      | inr g ↦ rw (h.found all g.0 g.2, g.3, g.4) refl
    ];
  }

-- ---- checks behind a text

-- eight bits that are there are those of the number that they spell
byte_there : (all : List Bool) (place : ℕ) → place + 8 ≤ length all → bits 8 (byte_at place all) ≡ take 8 (drop place all)
byte_there all place le =
    let text = take 8 (drop place all) in
    let len : length text ≡ 8 = omega (arith, length-take 8 (drop place all), length-drop place all) in
    subst (λ (k : ℕ). bits k (number text) ≡ text) len (bits-number text)

-- what the bits are that end with two bytes
two_bytes : (all : List Bool) → 16 ≤ length all → all ≡ checked_part all ++ (bits 8 (byte_at (length all - 16) all) ++ bits 8 (byte_at (length all - 8) all))
two_bytes all size =
    let n = length all - 16 in
    let one : take n all ++ drop n all ≡ all = take-append-drop n all in
    let two : take 8 (drop n all) ++ drop 8 (drop n all) ≡ drop n all = take-append-drop 8 (drop n all) in
    let next : length all - 8 ≡ n + 8 = omega arith in
    let last : drop 8 (drop n all) ≡ drop (length all - 8) all = rw next (drop-drop 8 n all) in
    let end : take 8 (drop (length all - 8) all) ≡ drop (length all - 8) all = take_all 8 (drop (length all - 8) all) (omega (arith, length-drop (length all - 8) all)) in
    rw (byte_there all n (omega arith), byte_there all (length all - 8) (omega arith), end, ← last, two, one) refl

module _ (text : List Bool) (p c : ℕ) (small-p : p < 2 ^ 8) (small-c : c < 2 ^ 8) where
  bytes_length : length (text ++ (bits 8 p ++ bits 8 c)) ≡ length text + 16
  bytes_length = omega (arith, length-append text (bits 8 p ++ bits 8 c), length-append (bits 8 p) (bits 8 c), length-bits 8 p, length-bits 8 c)

  bytes_text : checked_part (text ++ (bits 8 p ++ bits 8 c)) ≡ text
  bytes_text =
      let n : length (text ++ (bits 8 p ++ bits 8 c)) - 16 ≡ length text = omega (arith, bytes_length) in
      rw n (take_at text (bits 8 p ++ bits 8 c) (length text) refl)

  bytes_parity : byte_at (length (text ++ (bits 8 p ++ bits 8 c)) - 16) (text ++ (bits 8 p ++ bits 8 c)) ≡ p
  bytes_parity =
      let n : length (text ++ (bits 8 p ++ bits 8 c)) - 16 ≡ length text = omega (arith, bytes_length) in
      rw (n, drop_at text (bits 8 p ++ bits 8 c) (length text) refl, take_at (bits 8 p) (bits 8 c) 8 (length-bits 8 p)) (number-of 8 p small-p)

  bytes_check : byte_at (length (text ++ (bits 8 p ++ bits 8 c)) - 8) (text ++ (bits 8 p ++ bits 8 c)) ≡ c
  bytes_check =
      let n : length (text ++ (bits 8 p ++ bits 8 c)) - 8 ≡ length text + 8 = omega (arith, bytes_length) in
      let split : drop 8 (drop (length text) (text ++ (bits 8 p ++ bits 8 c))) ≡ drop (length text + 8) (text ++ (bits 8 p ++ bits 8 c)) = drop-drop 8 (length text) (text ++ (bits 8 p ++ bits 8 c)) in
      let all-c : take 8 (bits 8 c) ≡ bits 8 c = take_all 8 (bits 8 c) (omega (arith, length-bits 8 c)) in
      rw (n, ← split, drop_at text (bits 8 p ++ bits 8 c) (length text) refl, drop_at (bits 8 p) (bits 8 c) 8 (length-bits 8 p), all-c) (number-of 8 c small-c)

module _ {R : Type 0} (parity check : List Bool → ℕ) {w : Whole R}
    (small-p : (b : List Bool) → parity b < 2 ^ 8) (small-c : (b : List Bool) → check b < 2 ^ 8) (long : (r : R) → w.Fits r → 16 ≤ length (w.spelling r)) (h : IsWhole w) where
  text_there : (all : List Bool) → 32 ≤ length all → parity_is parity all ≡ true → check_is check all ≡ true → (x : Result R Broken) → SoundWhole w (checked_part all) x → SoundWhole (checked_first parity check w) all x
  unfolding checked_first
  text_there all size p c (Ok r) f =
      let same-p : byte_at (length all - 16) all ≡ parity (w.spelling r) = eqb-true _ _ p ∙ ap parity f.text_is in
      let same-c : byte_at (length all - 8) all ≡ check (w.spelling r) = eqb-true _ _ c ∙ ap check f.text_is in
      let bytes : bits 8 (byte_at (length all - 16) all) ++ bits 8 (byte_at (length all - 8) all) ≡ bits 8 (parity (w.spelling r)) ++ bits 8 (check (w.spelling r)) = rw (same-p, same-c) refl in
      let text : checked_part all ++ (bits 8 (byte_at (length all - 16) all) ++ bits 8 (byte_at (length all - 8) all)) ≡ w.spelling r ++ (bits 8 (parity (w.spelling r)) ++ bits 8 (check (w.spelling r))) = rw (bytes, f.text_is) refl in
      record { fits = f.fits; meets = f.meets; text_is = two_bytes all (omega arith) ∙ text }
  text_there all size p c (Err e) f = inr (inr (inr (size, p, c, f)))

  checked_there : (all : List Bool) (l p c : Bool) → leb 32 (length all) ≡ l → parity_is parity all ≡ p → check_is check all ≡ c
      → SoundWhole (checked_first parity check w) all (cond l (cond p (cond c (w.read (checked_part all)) (Err (broken rule.SegmentCheck (length all - 8)))) (Err (broken rule.SegmentParity (length all - 16)))) (Err (short 0)))
  unfolding checked_first
  checked_there all false p c is-l is-p is-c = inl (leb-false 32 (length all) is-l, refl)
  checked_there all true false c is-l is-p is-c = inr (inl (leb-true 32 (length all) is-l, is-p, refl))
  checked_there all true true false is-l is-p is-c = inr (inr (inl (leb-true 32 (length all) is-l, is-p, is-c, refl)))
  checked_there all true true true is-l is-p is-c = text_there all (leb-true 32 (length all) is-l) is-p is-c (w.read (checked_part all)) (h.sound (checked_part all))

  checked_again : (r : R) → w.Fits r → w.Meets r → checked_read parity check w (w.spelling r ++ (bits 8 (parity (w.spelling r)) ++ bits 8 (check (w.spelling r)))) ≡ Ok r
  checked_again r fits meets =
      let text = w.spelling r in
      let p = parity text in
      let c = check text in
      let all = text ++ (bits 8 p ++ bits 8 c) in
      let size : leb 32 (length all) ≡ true = le-leb _ _ (omega (arith, bytes_length text p c (small-p text) (small-c text), long r fits)) in
      let part-is = bytes_text text p c (small-p text) (small-c text) in
      let is-p : parity_is parity all ≡ true = eq-eqb _ _ (bytes_parity text p c (small-p text) (small-c text) ∙ ap parity (sym part-is)) in
      let is-c : check_is check all ≡ true = eq-eqb _ _ (bytes_check text p c (small-p text) (small-c text) ∙ ap check (sym part-is)) in
      let read : w.read (checked_part all) ≡ Ok r = ap w.read part-is ∙ h.found text r (record { fits = fits; meets = meets; text_is = refl }) in
      rw (size, is-p, is-c) read

  pub checked_first_is : IsWhole (checked_first parity check w)
  unfolding checked_first
  checked_first_is = record {
    sound = λ all. checked_there all (leb 32 (length all)) (parity_is parity all) (check_is check all) refl refl refl;
    found = λ all r f. ap (checked_read parity check w) f.text_is ∙ checked_again r f.fits f.meets;
    failed = λ all e f. elim f [
      | inl g ↦ let few : leb 32 (length all) ≡ false = lt-leb _ _ g.0 in rw (few, g.1) refl
      | inr g ↦ elim g [
        | inl g ↦ let size : leb 32 (length all) ≡ true = le-leb _ _ g.0 in rw (size, g.1, g.2) refl
        | inr g ↦ elim g [
          | inl g ↦ let size : leb 32 (length all) ≡ true = le-leb _ _ g.0 in rw (size, g.1, g.2, g.3) refl
          | inr g ↦ let size : leb 32 (length all) ≡ true = le-leb _ _ g.0 in rw (size, g.1, g.2) (h.failed (checked_part all) e g.3)
        ]
      ]
    ];
  }

pub chosen_whole_is : {R : Type 0} (b : Bool) {v w : Whole R} → (b ≡ true → IsWhole v) → (b ≡ false → IsWhole w) → IsWhole (chosen_whole b v w)
unfolding chosen_whole
chosen_whole_is true h k = h refl
chosen_whole_is false h k = k refl
