-- Symbols are read as their codes stand.
use Rattle.std.proofs.Common.{◌≡◌, ◌≢◌, ℕ, zero, suc, ◌+◌, ◌*◌, ◌/◌, ◌%◌, ◌^◌, ◌<◌, ◌≤◌, Bool, true, false, eqb, leb, List, [], ◌∷◌, ◌++◌}
use Rattle.std.proofs.Common.{length, take, drop, replicate, Ok, Err, Option, Some, None, refl, sym, ap, subst, ◌∙◌, arith, ◌⊎◌, inl, inr}
use Rattle.std.proofs.lemmas.List.{length-append, length-take, length-drop, length-replicate}
use Rattle.std.proofs.lemmas.Bool.{cases_lt, le-leb, leb-true, lt-leb, eqb-true}
use Rattle.mlp_syntax.specs.declared.fault.Field.TheVariants as rule
use Rattle.mlp_syntax.specs.declared.fault.Field.{Field}
use Rattle.mlp_syntax.specs.declared.fault.Broken.{Broken}
use Rattle.mlp_bits.specs.Bits.{bits, number}
use Rattle.mlp_bits.specs.Cursor.{Cursor, left, peeked}
use Rattle.mlp_bits.proofs.BitLists.{length-bits}
use Rattle.mlp_bits.proofs.ReadBack.{bits-number}
use Rattle.mlp_bits.proofs.Fields.{number-below}
use Rattle.mlp_layout.specs.Reading.{Stands, broken}
use Rattle.mlp_layout.specs.Layout.{Sound, IsLayout, made}
use Rattle.mlp_bits.proofs.Peeking.{peeked-whole}
use Rattle.mlp_layout.proofs.LayoutLaws.{made_is}
use Rattle.mlp_books.specs.BookFacts.{counted1, counted2, counted3, passes1, passes2, passes3}
use Rattle.mlp_books.specs.Books.{book1, book2, book3, code_of, begins, find_symbol, IsNone, IsBook, NoCode, IsCut, symbol_or_fault, symbol_of, symbol_in, meaning, meaning_of, meaning_in, longest_in}
use Rattle.mlp_books.proofs.BookLaws.{begins-within, begins-take, begins-front, begins-cut, begins-uncut, begins-more, begins-less, find-none, none-begins, At, find-at, only-one, at-find, book_is}

-- ---- a code stands where the text begins with it

pub stands-begins : (code all : List Bool) (p : ℕ) → Stands all p code → begins code (drop p all) ≡ true
stands-begins code all p s = subst (λ (t : List Bool). begins code t ≡ true) (whole code (drop p all) s.text_is) (begins-front code (drop (length code) (drop p all)))
  where
    whole : (code text : List Bool) → take (length code) text ≡ code → code ++ drop (length code) text ≡ text
    whole [] text h = refl
    whole (b ∷ code) [] h = absurd cc
    whole (b ∷ code) (c ∷ text) h = let e : c ≡ b = cc in let later : take (length code) text ≡ code = cc in rw (e, whole code text later) refl

pub begins-stands : (code all : List Bool) (p : ℕ) → p ≤ length all → begins code (drop p all) ≡ true → Stands all p code
begins-stands code all p le h = record {
  within = omega (arith, begins-within code (drop p all) h, length-drop p all);
  text_is = begins-take code (drop p all) h;
}

-- nine bits that stand are the first nine
nine-stands : (all : List Bool) (p n : ℕ) → Stands all p (bits 9 n) → take 9 (drop p all) ≡ bits 9 n
nine-stands all p n s = subst (λ (k : ℕ). take k (drop p all) ≡ bits 9 n) (length-bits 9 n) s.text_is

stands-nine : (all : List Bool) (p n : ℕ) → p + 9 ≤ length all → take 9 (drop p all) ≡ bits 9 n → Stands all p (bits 9 n)
stands-nine all p n le e = record { within = omega (arith, length-bits 9 n); text_is = rw (length-bits 9 n) e }

-- ---- a symbol is a layout

nine_number : (all : List Bool) (p : ℕ) → p + 9 ≤ length all → (n : ℕ) × (take 9 (drop p all) ≡ bits 9 n) × (n < 2 ^ 9)
nine_number all p le =
    let nine = take 9 (drop p all) in
    let len : length nine ≡ 9 = omega (arith, length-take 9 (drop p all), length-drop p all) in
    (number nine, sym (bits-number nine) ∙ ap (λ (k : ℕ). bits k (number nine)) len, subst (λ (k : ℕ). number nine < 2 ^ k) len (number-below nine))

one_of_two : (n : ℕ) → ((IsNone n → ⊥) → ⊥) → IsNone n
one_of_two n h = go (eqb n 0) (eqb n 128) refl refl
  where
    go : (a b : Bool) → eqb n 0 ≡ a → eqb n 128 ≡ b → IsNone n
    go true b e d = inl (eqb-true n 0 e)
    go false true e d = inr (eqb-true n 128 d)
    go false false e d = absurd (h neither)
      where
        neither : IsNone n → ⊥
        neither (inl z) = let k : eqb n 0 ≡ true = rw z refl in absurd cc
        neither (inr z) = let k : eqb n 128 ≡ true = rw z refl in absurd cc

module _ {book : List (List Bool)} (is : IsBook book) where
  -- nine bits that begin with no code are one of the two
  no_code : (all : List Bool) (p : ℕ) → p + 9 ≤ length all → find_symbol book 0 (drop p all) ≡ None → NoCode all p
  no_code all p le none =
      let nine = nine_number all p le in
      which nine.0 nine.1 (one_of_two nine.0 (λ h.
      let s = is.some nine.0 nine.2 h in
      let begun : begins (code_of book s.0) (take 9 (drop p all)) ≡ true = rw nine.1 s.2 in
      let here = begins-uncut 9 (code_of book s.0) (drop p all) begun in
      let not-here = find-none book 0 (drop p all) s.0 none s.1 in
      absurd cc))
    where
      which : (n : ℕ) → take 9 (drop p all) ≡ bits 9 n → IsNone n → NoCode all p
      which n e (inl z) = inl (stands-nine all p 0 le (e ∙ ap (bits 9) z))
      which n e (inr z) = inr (stands-nine all p 128 le (e ∙ ap (bits 9) z))

  not_found : (all : List Bool) (p n : ℕ) → IsNone n → Stands all p (bits 9 n) → find_symbol book 0 (drop p all) ≡ None
  not_found all p n none s = none-begins book (drop p all) (λ i lt h.
      let begun : begins (code_of book i) (bits 9 n) ≡ true = rw (← nine-stands all p n s) (begins-cut 9 (code_of book i) (drop p all) (is.longest i lt) h) in
      let not-begun = is.none n i none lt in
      absurd cc)

  there : (all : List Bool) (p : ℕ) → p ≤ length all → (o : Option ℕ) → find_symbol book 0 (drop p all) ≡ o → (b : Bool) → leb (p + 9) (length all) ≡ b → Sound (symbol_of book) all p (symbol_or_fault book o all p)
  unfolding symbol_of
  there all p le (Some s) e b room =
      let a = find-at book (drop p all) s e in
      (record { fits = a.within; meets = tt; stands = begins-stands (code_of book s) all p le a.found }, refl)
  there all p le None e true room = rw room (inl (no_code all p (leb-true _ _ room) e, refl))
  there all p le None e false room =
      let few : length all < p + 9 = grind (arith, room) in
      rw room (inr ((few, λ s lt st. let here = stands-begins (code_of book s) all p st in let not-here = find-none book 0 (drop p all) s e lt in absurd cc), refl))

  nine_fails : (all : List Bool) (p n : ℕ) → IsNone n → Stands all p (bits 9 n) → (e : Broken) → e ≡ broken rule.Code p → (symbol_of book).read all p ≡ Err e
  unfolding symbol_of
  nine_fails all p n none s e e-is =
      let room : leb (p + 9) (length all) ≡ true = le-leb _ _ (omega (arith, s.within, length-bits 9 n)) in
      rw (not_found all p n none s, room, e-is) refl

  cut_fails : (all : List Bool) (p : ℕ) → IsCut book all p → (e : Broken) → e ≡ broken rule.SegmentShort p → (symbol_of book).read all p ≡ Err e
  unfolding symbol_of
  cut_fails all p cut e e-is =
      let none : find_symbol book 0 (drop p all) ≡ None = none-begins book (drop p all) (λ i lt h.
      let le : p ≤ length all = omega (arith, begins-within (code_of book i) (drop p all) h, is.shortest i lt, length-drop p all) in
      cut.1 i lt (begins-stands (code_of book i) all p le h)) in
      let room : leb (p + 9) (length all) ≡ false = lt-leb _ _ cut.0 in
      rw (none, room, e-is) refl

  pub symbol_of_is : IsLayout (symbol_of book)
  unfolding symbol_of
  symbol_of_is = record {
    sound = λ all p le. there all p le (find_symbol book 0 (drop p all)) refl (leb (p + 9) (length all)) refl;
    found = λ all p s f. rw (at-find book is (drop p all) s (record { within = f.fits; found = stands-begins (code_of book s) all p f.stands })) refl;
    failed = λ all p e f. fails all p e f;
  }
    where
      fails : (all : List Bool) (p : ℕ) (e : Broken) → (NoCode all p × (e ≡ broken rule.Code p)) ⊎ (IsCut book all p × (e ≡ broken rule.SegmentShort p)) → (symbol_of book).read all p ≡ Err e
      fails all p e (inl (inl s, is-e)) = nine_fails all p 0 (inl refl) s e is-e
      fails all p e (inl (inr s, is-e)) = nine_fails all p 128 (inr refl) s e is-e
      fails all p e (inr (cut, is-e)) = cut_fails all p cut e is-e

pub symbol_is1 : IsLayout (symbol_of book1)
symbol_is1 = symbol_of_is (book_is passes1)

pub symbol_is2 : IsLayout (symbol_of book2)
symbol_is2 = symbol_of_is (book_is passes2)

pub symbol_is3 : IsLayout (symbol_of book3)
symbol_is3 = symbol_of_is (book_is passes3)

pub symbol_in_is : (book : ℕ) → IsLayout (symbol_in book)
unfolding symbol_in
symbol_in_is zero = made_is 0
symbol_in_is (suc zero) = symbol_is1
symbol_in_is (suc (suc zero)) = symbol_is2
symbol_in_is (suc (suc (suc book))) = symbol_is3

-- ---- reading by nine bits, with zeros behind the last

-- the nine bits
nine_of : Cursor → List Bool
nine_of c = take 9 (left c ++ replicate 9 false)

nine-is : (c : Cursor) → bits 9 (peeked 9 c) ≡ nine_of c
unfolding peeked nine_of
nine-is c =
    let text = take 9 (left c ++ replicate 9 false) in
    let len : length text ≡ 9 = omega (arith, length-take 9 (left c ++ replicate 9 false), length-append (left c) (replicate 9 false), length-replicate 9 false) in
    sym (ap (λ (w : ℕ). bits w (number text)) len) ∙ bits-number text

-- what a meaning says of the nine bits
record Nine (book : List (List Bool)) (c : Cursor) (e : ℕ) : Type 0 where
  none : e ≡ 65535 → find_symbol book 0 (nine_of c) ≡ None
  some : e ≢ 65535 → At book (nine_of c) (e / 256) × (e % 256 ≡ length (code_of book (e / 256)))
  few : e ≢ 65535 → e % 256 ≤ 9

module _ {book : List (List Bool)} (is : IsBook book) (c : Cursor) (e : ℕ) (e-is : e ≡ meaning_of book (bits 9 (peeked 9 c))) where
  nine_says : Nine book c e
  nine_says = go (find_symbol book 0 (nine_of c)) refl (e-is ∙ ap (meaning_of book) (nine-is c))
    where
      go : (o : Option ℕ) → find_symbol book 0 (nine_of c) ≡ o → e ≡ meaning book (find_symbol book 0 (nine_of c)) → Nine book c e
      go None f g =
          let z : e ≡ 65535 = g ∙ ap (meaning book) f in
          record { none = λ h. f; some = λ h. absurd (h z); few = λ h. absurd (h z) }
      go (Some s) f g =
          let z : e ≡ 256 * s + length (code_of book s) = g ∙ ap (meaning book) f in
          let a = find-at book (nine_of c) s f in
          let high = is.longest s a.within in
          let s-is : s ≡ e / 256 = omega (arith, z, high) in
          let l-is : length (code_of book s) ≡ e % 256 = omega (arith, z, high) in
          record {
            none = λ h. absurd (omega (arith, h, z, high));
            some = λ h. (subst (At book (nine_of c)) s-is a, sym l-is ∙ ap (λ (i : ℕ). length (code_of book i)) s-is);
            few = λ h. omega (arith, l-is, high);
          }

  no_symbol : find_symbol book 0 (nine_of c) ≡ None → find_symbol book 0 (left c) ≡ None
  unfolding nine_of
  no_symbol none = none-begins book (left c) (λ i lt h.
      let begun = begins-cut 9 (code_of book i) (left c ++ replicate 9 false) (is.longest i lt) (begins-more (code_of book i) (left c) (replicate 9 false) h) in
      let not-begun = find-none book 0 (take 9 (left c ++ replicate 9 false)) i none lt in
      absurd cc)

  pub reads_symbol : e ≢ 65535 → e % 256 ≤ length (left c) → ((symbol_of book).read c.all c.place ≡ Ok (e / 256, c.place + e % 256)) × (e / 256 < length book)
  unfolding symbol_of nine_of
  reads_symbol some room =
      let a = nine_says.some some in
      let here = begins-less (code_of book (e / 256)) (left c) (replicate 9 false) (omega (arith, a.1)) (begins-uncut 9 (code_of book (e / 256)) (left c ++ replicate 9 false) a.0.found) in
      (rw (at-find book is (left c) (e / 256) (record { within = a.0.within; found = here }), a.1) refl, a.0.within)

  pub reads_none : e ≡ 65535 → (f : Field) → (length (left c) < 9 → f ≡ rule.SegmentShort) → (9 ≤ length (left c) → f ≡ rule.Code) → (symbol_of book).read c.all c.place ≡ Err (broken f c.place)
  unfolding symbol_of
  reads_none none-is f short long =
      let none = no_symbol (nine_says.none none-is) in
      elim (cases_lt (length (left c)) 9) [
        | inl lt ↦
            let room : leb (c.place + 9) (length c.all) ≡ false = lt-leb _ _ (omega (arith, length-drop c.place c.all)) in
            rw (none, room, short lt) refl
        | inr le ↦
            let room : leb (c.place + 9) (length c.all) ≡ true = le-leb _ _ (omega (arith, length-drop c.place c.all)) in
            rw (none, room, long le) refl
      ]

  pub reads_cut : e ≢ 65535 → length (left c) < e % 256 → (symbol_of book).read c.all c.place ≡ Err (broken rule.SegmentShort c.place)
  unfolding symbol_of nine_of
  reads_cut there short =
      let a = nine_says.some there in
      let few = nine_says.few there in
      let none : find_symbol book 0 (left c) ≡ None = none-begins book (left c) (λ i within h. other a.0 a.1 i within h) in
      let room : leb (c.place + 9) (length c.all) ≡ false = lt-leb _ _ (omega (arith, length-drop c.place c.all)) in
      rw (none, room) refl
    where
      other : At book (take 9 (left c ++ replicate 9 false)) (e / 256) → e % 256 ≡ length (code_of book (e / 256)) → (i : ℕ) → i < length book → begins (code_of book i) (left c) ≡ true → ⊥
      other a l i within h =
          let begun = begins-cut 9 (code_of book i) (left c ++ replicate 9 false) (is.longest i within) (begins-more (code_of book i) (left c) (replicate 9 false) h) in
          let same : i ≡ e / 256 = only-one book is _ i (e / 256) (record { within = within; found = begun }) a in
          let fits = begins-within (code_of book i) (left c) h in
          let k : length (code_of book i) ≡ length (code_of book (e / 256)) = ap (λ (j : ℕ). length (code_of book j)) same in
          absurd (omega arith)

-- ---- reading by nine bits that are there

-- what nine bits say of a symbol of the book with this number
pub record Ahead (book n : ℕ) (all : List Bool) (p : ℕ) : Type 0 where
  pub some : n < 65535 → (symbol_in book).read all p ≡ Ok (n / 256, p + n % 256)
  pub none : 65535 ≤ n → (symbol_in book).read all p ≡ Err (broken rule.Code p)
  pub few : n < 65535 → n % 256 ≤ longest_in book

module _ {book : List (List Bool)} (is : IsBook book) (most : length book ≤ 18) (all : List Bool) (p k n : ℕ) (there : p + 9 ≤ length all) (k-is : k ≡ number (take 9 (drop p all))) (n-is : n ≡ meaning_of book (bits 9 k)) where
  abbrev cursor : Cursor
  cursor = record { all = all; place = p }

  room : 9 ≤ length (drop p all)
  room = omega (arith, length-drop p all)

  by_peek : n ≡ meaning_of book (bits 9 (peeked 9 cursor))
  by_peek = n-is ∙ ap (λ (j : ℕ). meaning_of book (bits 9 j)) (k-is ∙ sym (peeked-whole 9 cursor room))

  record Said : Type 0 where
    some : n < 65535 → (symbol_of book).read all p ≡ Ok (n / 256, p + n % 256)
    none : 65535 ≤ n → (symbol_of book).read all p ≡ Err (broken rule.Code p)
    few : n < 65535 → n % 256 ≤ 9

  said : Said
  said = go (find_symbol book 0 (bits 9 k)) refl n-is
    where
      go : (o : Option ℕ) → find_symbol book 0 (bits 9 k) ≡ o → n ≡ meaning book (find_symbol book 0 (bits 9 k)) → Said
      go None f g =
          let z : n ≡ 65535 = g ∙ ap (meaning book) f in
          record {
            some = λ h. absurd (omega (arith, h, z));
            none = λ h. reads_none is cursor n by_peek z rule.Code (λ lt. absurd (omega (arith, lt, room))) (λ le. refl);
            few = λ h. absurd (omega (arith, h, z));
          }
      go (Some s) f g =
          let z : n ≡ 256 * s + length (code_of book s) = g ∙ ap (meaning book) f in
          let a = find-at book (bits 9 k) s f in
          let high = is.longest s a.within in
          let small : s < 18 = omega (arith, a.within, most) in
          let there : n ≢ 65535 = λ e. absurd (omega (arith, e, z, high, small)) in
          record {
            some = λ h. (reads_symbol is cursor n by_peek there (omega (arith, z, high, room))).0;
            none = λ h. absurd (omega (arith, h, z, high, small));
            few = λ h. omega (arith, z, high);
          }

-- the nine bits count where the book has codes
pub symbol_ahead : (book : ℕ) (all : List Bool) (p k n : ℕ) → p + longest_in book ≤ length all → (0 < book → k ≡ number (take 9 (drop p all))) → n ≡ meaning_in book k → Ahead book n all p
unfolding symbol_in made
symbol_ahead zero all p k n there k-is n-is = record {
  some = λ h. rw n-is (ap (λ (q : ℕ). Ok (0, q)) (omega arith));
  none = λ h. absurd (omega (arith, h, n-is));
  few = λ h. omega (arith, n-is);
}
symbol_ahead (suc zero) all p k n there k-is n-is =
    let s = said (book_is passes1) (omega (arith, counted1)) all p k n there (k-is (omega arith)) n-is in
    record { some = s.some; none = s.none; few = s.few }
symbol_ahead (suc (suc zero)) all p k n there k-is n-is =
    let s = said (book_is passes2) (omega (arith, counted2)) all p k n there (k-is (omega arith)) n-is in
    record { some = s.some; none = s.none; few = s.few }
symbol_ahead (suc (suc (suc book))) all p k n there k-is n-is =
    let s = said (book_is passes3) (omega (arith, counted3)) all p k n there (k-is (omega arith)) n-is in
    record { some = s.some; none = s.none; few = s.few }
