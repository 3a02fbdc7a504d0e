-- Heads and entries are read word by word.
use Rattle.std.proofs.Common.{◌≡◌, ℕ, zero, suc, ◌+◌, ◌*◌, ◌/◌, ◌%◌, ◌^◌, ◌<◌, ◌≤◌, eqb, cond, Bool, true, false, List, ◌++◌, length, take, drop, Option, Some, None, Ok, Err, refl, sym, ap, subst, ◌∙◌, arith}
use Rattle.std.proofs.lemmas.Bool.{lt-ltb, le-leb, lt-leb, eqb-true}
use Rattle.std.proofs.lemmas.List.{length-append}
use Rattle.std.specs.Prelude.{is_some}
use Rattle.mlp_syntax.specs.declared.fault.Broken.{Broken}
use Rattle.mlp_syntax.specs.declared.fault.Field.{Field}
use Rattle.mlp_syntax.specs.declared.fault.Field.TheVariants as rule
use Rattle.mlp_syntax.specs.declared.unit.DirEntry.{DirEntry}
use Rattle.mlp_syntax.specs.declared.unit.UnitHead.{UnitHead}
use Rattle.mlp_bits.specs.Bits.{bits, digit, number}
use Rattle.mlp_bits.proofs.BitLists.{length-bits}
use Rattle.mlp_bits.proofs.ReadBack.{number-of}
use Rattle.mlp_layout.specs.Reading.{Read, ◌>>=◌, Stands, broken}
use Rattle.mlp_layout.specs.Layout.{Layout, IsLayout, Found, number_of, seen, ruled, whole, part, made, behind}
use Rattle.mlp_layout.specs.Combined.{flag, chosen, present}
use Rattle.mlp_layout.proofs.LayoutLaws.{number_of_is, is_found, is_failed}
use Rattle.mlp_layout.proofs.CombinedLaws.{layouts, present_is}
use Rattle.mlp_layout.proofs.Standing.{Stands-append, Stands-front}
use Rattle.mlp_unit.specs.Directory.{entry, entry_size}
use Rattle.mlp_unit.specs.AccessUnit.{head, head_fields}
use Rattle.mlp_unit.proofs.UnitLaws.{entry_is, entry_takes, head_takes}
use Rattle.mlp_unit.proofs.WordTexts.{bits-join, word_of, entry_text, head_text, end_small}
use Rattle.mlp_unit.proofs.UnitFitting.{extra_small, entry_fits_by}

-- ---- numbers

abbrev read_ok : {A : Type 0} → A → ℕ → Read A
read_ok x q = Ok (x, q)

short_size : (w : ℕ) (all : List Bool) (p : ℕ) (e : Broken) → p ≤ length all → (number_of w).read all p ≡ Err e → length all < p + w
unfolding number_of
short_size w all p e le h = (is_failed (number_of_is w) all p le e h).0

number_stands : (w : ℕ) (all : List Bool) (p n q : ℕ) → p ≤ length all → (number_of w).read all p ≡ Ok (n, q) → (n < 2 ^ w) × Stands all p (bits w n) × (q ≡ p + w)
unfolding number_of
number_stands w all p n q le h =
    let f = is_found (number_of_is w) all p le (n, q) h in
    (f.0.fits, f.0.stands, f.1 ∙ ap (λ (k : ℕ). p + k) (length-bits w n))

-- what can't be read as anything fails as a whole
whole_fails : {A : Type 0} (field : Field) (l : Layout A) (all : List Bool) (p : ℕ) → ((x : A) (q : ℕ) → l.read all p ≡ Ok (x, q) → ⊥) → (whole field l).read all p ≡ Err (broken field p)
unfolding whole
whole_fails field l all p none = by_read (l.read all p) refl
  where
    by_read : (r : Read _) → l.read all p ≡ r → (whole field l).read all p ≡ Err (broken field p)
    by_read (Ok x) is = absurd (none x.0 x.1 is)
    by_read (Err e) is = rw is refl

whole_reads : {A : Type 0} (field : Field) (l : Layout A) (all : List Bool) (p : ℕ) (x : A) (q : ℕ) → l.read all p ≡ Ok (x, q) → (whole field l).read all p ≡ Ok (x, q)
unfolding whole
whole_reads field l all p x q is = rw is refl

-- ---- an entry

digit_of : (n : ℕ) → n < 2 → digit (eqb n 1) ≡ n
digit_of zero lt = refl
digit_of (suc zero) lt = refl
digit_of (suc (suc n)) lt = absurd (omega arith)

abbrev pub entry_of : ℕ → Option ℕ → DirEntry
entry_of w o = record { extra = o; restart_absent = eqb (w / 16384 % 2) 1; checked = eqb (w / 8192 % 2) 1; reserved = eqb (w / 4096 % 2) 1; end = w % 4096 }

word_again : (w : ℕ) (o : Option ℕ) → w < 65536 → is_some o ≡ eqb (w / 32768) 1 → w ≡ word_of (entry_of w o)
word_again w o lt there =
    let a : digit (is_some o) ≡ w / 32768 = ap digit there ∙ digit_of (w / 32768) (omega arith) in
    let b = digit_of (w / 16384 % 2) (omega arith) in
    let c = digit_of (w / 8192 % 2) (omega arith) in
    let d = digit_of (w / 4096 % 2) (omega arith) in
    omega (arith, a, b, c, d)

some_is : (there : Bool) (o : Option ℕ) → (present there (number_of 16)).Fits o → is_some o ≡ there
unfolding present chosen seen made
some_is true None fits = absurd fits
some_is true (Some x) fits = refl
some_is false None fits = refl
some_is false (Some x) fits = absurd cc

extra_meets : (o : Option ℕ) → (present (is_some o) (number_of 16)).Meets o
unfolding present chosen seen made number_of
extra_meets None = tt
extra_meets (Some x) = tt

entry_meets : (e : DirEntry) → entry.Meets e
unfolding entry part flag seen number_of made
entry_meets e = (tt, (tt, (tt, (tt, (tt, (extra_meets e.extra, tt))))))

module _ (all : List Bool) (p : ℕ) (le : p ≤ length all) where
  pub entry_short : (e : Broken) → (number_of 16).read all p ≡ Err e → (whole rule.DirectoryShort entry).read all p ≡ Err (broken rule.DirectoryShort p)
  entry_short e h =
      let short = short_size 16 all p e le h in
      whole_fails rule.DirectoryShort entry all p (λ x q is.
      let f = is_found entry_is all p le (x, q) is in
      omega (arith, short, f.0.stands.within, entry_takes.takes x f.0.fits, two_at_least x.extra))
    where
      two_at_least : (o : Option ℕ) → 2 ≤ cond (is_some o) 4 2
      two_at_least None = omega arith
      two_at_least (Some x) = omega arith

  module _ (w q : ℕ) (first : (number_of 16).read all p ≡ Ok (w, q)) where
    within : q ≤ length all
    within = let n = number_stands 16 all p w q le first in omega (arith, n.1.within, n.2, length-bits 16 w)

    pub entry_read : (o : Option ℕ) (b : ℕ) → (present (eqb (w / 32768) 1) (number_of 16)).read all q ≡ Ok (o, b) → (whole rule.DirectoryShort entry).read all p ≡ Ok (entry_of w o, b)
    entry_read o b h =
        let there = eqb (w / 32768) 1 in
        let n = number_stands 16 all p w q le first in
        let f = is_found (present_is there (λ is. number_of_is 16)) all q within (o, b) h in
        let is : is_some o ≡ there = some_is there o f.0.fits in
        let e = entry_of w o in
        let text : entry.spelling e ≡ bits 16 w ++ (present there (number_of 16)).spelling o = entry_text e w (omega arith) (word_again w o n.0 is) ∙ ap (λ (c : Bool). bits 16 w ++ (present c (number_of 16)).spelling o) is in
        let back : Stands all (p + length (bits 16 w)) ((present there (number_of 16)).spelling o) =
        subst (λ (k : ℕ). Stands all k ((present there (number_of 16)).spelling o)) (n.2 ∙ ap (λ (k : ℕ). p + k) (sym (length-bits 16 w))) f.0.stands in
        let fits = (entry_fits_by e (extra_small o (subst (λ (c : Bool). (present c (number_of 16)).Fits o) (sym is) f.0.fits))).0 (lt-ltb (w % 4096) 4096 (omega arith)) in
        let end : behind entry p e ≡ b = omega (arith, n.2, f.1, ap (λ (t : List Bool). length t) text, length-append (bits 16 w) ((present there (number_of 16)).spelling o), length-bits 16 w) in
        let found : Found entry all p e = record { fits = fits; meets = entry_meets e; stands = subst (Stands all p) (sym text) (Stands-append all p (bits 16 w) ((present there (number_of 16)).spelling o) n.1 back) } in
        whole_reads rule.DirectoryShort entry all p e b (entry_is.found all p e found ∙ ap (read_ok e) end)

    lacks_word : (e : Broken) (r : Read ℕ) → (number_of 16).read all q ≡ r → (present true (number_of 16)).read all q ≡ Err e → length all < q + 16
    unfolding present chosen seen
    lacks_word e (Ok x) is k = absurd (let no : (let r : Read (Option ℕ) = Ok (Some x.0, x.1) in r) ≡ Err e = subst (λ (r : Read ℕ). (r >>= λ a. Ok (Some a.0, a.1)) ≡ Err e) is k in cc)
    lacks_word e (Err d) is k = short_size 16 all q d within is

    lacks : (e : Broken) (there : Bool) → eqb (w / 32768) 1 ≡ there → (present there (number_of 16)).read all q ≡ Err e → (length all < q + 16) × (w / 32768 ≡ 1)
    unfolding present chosen made
    lacks e true is k = (lacks_word e ((number_of 16).read all q) refl k, eqb-true _ _ is)
    lacks e false is k = absurd cc

    pub extra_short : (e : Broken) → (present (eqb (w / 32768) 1) (number_of 16)).read all q ≡ Err e → (whole rule.DirectoryShort entry).read all p ≡ Err (broken rule.DirectoryShort p)
    extra_short e h =
        let n = number_stands 16 all p w q le first in
        let missing = lacks e (eqb (w / 32768) 1) refl h in
        whole_fails rule.DirectoryShort entry all p (λ x k is.
        let f = is_found entry_is all p le (x, k) is in
        let size = entry_takes.takes x f.0.fits in
        let front = Stands-front all p (bits 16 (word_of x)) _ (subst (Stands all p) (entry_text x (word_of x) (end_small x f.0.fits) refl) f.0.stands) in
        let same : bits 16 (word_of x) ≡ bits 16 w = sym front.text_is ∙ ap (λ (m : ℕ). take m (drop p all)) (length-bits 16 (word_of x) ∙ sym (length-bits 16 w)) ∙ n.1.text_is in
        let word : word_of x ≡ w = sym (number-of 16 (word_of x) (word_small x (end_small x f.0.fits))) ∙ ap number same ∙ number-of 16 w n.0 in
        omega (arith, missing, n.2, size, f.0.stands.within, big x (end_small x f.0.fits) word missing.1))
      where
        digit_small : (b : Bool) → digit b < 2
        digit_small true = omega arith
        digit_small false = omega arith

        word_small : (x : DirEntry) → x.end < 4096 → word_of x < 2 ^ 16
        word_small x lt = omega (arith, digit_small (is_some x.extra), digit_small x.restart_absent, digit_small x.checked, digit_small x.reserved)

        big : (x : DirEntry) → x.end < 4096 → word_of x ≡ w → w / 32768 ≡ 1 → entry_size x ≡ 4
        big x lt is one = by_extra x.extra refl
          where
            by_extra : (o : Option ℕ) → x.extra ≡ o → entry_size x ≡ 4
            by_extra None none =
                let no : digit (is_some x.extra) ≡ 0 = ap (λ (o : Option ℕ). digit (is_some o)) none in
                absurd (omega (arith, is, one, no, lt, digit_small x.restart_absent, digit_small x.checked, digit_small x.reserved))
            by_extra (Some y) some = ap (λ (o : Option ℕ). cond {A = ℕ} (is_some o) 4 2) some

-- ---- a head

abbrev pub head_of : ℕ → UnitHead
head_of n = record { check = n / 268435456; words = n / 65536 % 4096; timing = n % 65536 }

fields_are : IsLayout head_fields
unfolding head_fields
fields_are = search layouts depth 20

fields_fit : (n : ℕ) → n < 2 ^ 32 → head_fields.Fits (head_of n)
unfolding head_fields part made number_of
fields_fit n lt = (omega arith, (omega arith, (omega arith, refl)))

fields_meet : (h : UnitHead) → head_fields.Meets h
unfolding head_fields part made number_of
fields_meet h = (tt, (tt, (tt, tt)))

same_text : (h : UnitHead) → head.spelling h ≡ head_fields.spelling h
unfolding head ruled whole
same_text h = refl

fields_text : (n : ℕ) → n < 2 ^ 32 → head_fields.spelling (head_of n) ≡ bits 32 n
fields_text n lt =
    let c = n / 268435456 in
    let w = n / 65536 % 4096 in
    let t = n % 65536 in
    let is : (c * 4096 + w) * 2 ^ 16 + t ≡ n = omega arith in
    sym (same_text (head_of n)) ∙ head_text c w t (omega arith) ∙ sym (bits-join 16 16 (c * 4096 + w) t (omega arith)) ∙ ap (bits 32) is

fields_take : (h : UnitHead) → head_fields.Fits h → length (head_fields.spelling h) ≡ 32
unfolding head ruled whole
fields_take h fits = head_takes.takes h fits

module _ (all : List Bool) (p : ℕ) (le : p ≤ length all) where
  fields_read : (n q : ℕ) → (number_of 32).read all p ≡ Ok (n, q) → head_fields.read all p ≡ Ok (head_of n, q)
  fields_read n q h =
      let f = number_stands 32 all p n q le h in
      let text = fields_text n f.0 in
      let end : behind head_fields p (head_of n) ≡ q = omega (arith, f.2, ap (λ (t : List Bool). length t) text, length-bits 32 n) in
      let found : Found head_fields all p (head_of n) = record { fits = fields_fit n f.0; meets = fields_meet (head_of n); stands = subst (Stands all p) (sym text) f.1 } in
      fields_are.found all p (head_of n) found ∙ ap (read_ok (head_of n)) end

  pub head_good : (n q : ℕ) → (number_of 32).read all p ≡ Ok (n, q) → 2 ≤ n / 65536 % 4096 → head.read all p ≡ Ok (head_of n, q)
  unfolding head ruled whole
  head_good n q h two = rw (fields_read n q h, le-leb 2 (n / 65536 % 4096) two) refl

  pub head_bad : (n q : ℕ) → (number_of 32).read all p ≡ Ok (n, q) → n / 65536 % 4096 < 2 → head.read all p ≡ Err (broken rule.UnitLength (p + 4))
  unfolding head ruled whole
  head_bad n q h few = rw (fields_read n q h, lt-leb 2 (n / 65536 % 4096) few) refl

  pub head_short : (e : Broken) → (number_of 32).read all p ≡ Err e → head.read all p ≡ Err (broken rule.UnitHeader p)
  unfolding head ruled
  head_short e h =
      let short = short_size 32 all p e le h in
      let fails = whole_fails rule.UnitHeader head_fields all p (λ x q is.
      let f = is_found fields_are all p le (x, q) is in
      omega (arith, short, f.0.stands.within, fields_take x f.0.fits)) in
      rw fails refl
