-- What passes the tests is a book.
use Rattle.std.proofs.Common.{◌≡◌, ℕ, zero, suc, ◌+◌, ◌<◌, ◌≤◌, Bool, true, false, cond, eqb, leb, not, List, [], ◌∷◌, ◌++◌, length, take, Option, Some, None, refl, sym, ap, subst, ◌∙◌, arith, ◌⊎◌, inl, inr}
use Rattle.std.specs.Prelude.{◌||◌, is_some}
use Rattle.std.proofs.lemmas.Bool.{and_parts, leb-true, eqb-true, cases_lt}
use Rattle.mlp_bits.specs.Bits.{bits}
use Rattle.mlp_books.specs.Books.{code_of, begins, find_symbol, all_below, is_free, is_wide, same_bool, is_whole, Passes, IsNone, IsBook}

-- ---- what a text begins with

pub begins-within : (code text : List Bool) → begins code text ≡ true → length code ≤ length text
unfolding begins
begins-within [] text h = omega arith
begins-within (b ∷ code) [] h = absurd cc
begins-within (true ∷ code) (true ∷ text) h = let k = begins-within code text h in omega arith
begins-within (true ∷ code) (false ∷ text) h = absurd cc
begins-within (false ∷ code) (true ∷ text) h = absurd cc
begins-within (false ∷ code) (false ∷ text) h = let k = begins-within code text h in omega arith

pub begins-take : (code text : List Bool) → begins code text ≡ true → take (length code) text ≡ code
unfolding begins
begins-take [] text h = refl
begins-take (b ∷ code) [] h = absurd cc
begins-take (true ∷ code) (true ∷ text) h = ap (λ (t : List Bool). true ∷ t) (begins-take code text h)
begins-take (true ∷ code) (false ∷ text) h = absurd cc
begins-take (false ∷ code) (true ∷ text) h = absurd cc
begins-take (false ∷ code) (false ∷ text) h = ap (λ (t : List Bool). false ∷ t) (begins-take code text h)

pub begins-front : (code later : List Bool) → begins code (code ++ later) ≡ true
unfolding begins
begins-front [] later = refl
begins-front (true ∷ code) later = begins-front code later
begins-front (false ∷ code) later = begins-front code later

-- of two codes that a text begins with the shorter begins the longer
begins-both : (c d text : List Bool) → begins c text ≡ true → begins d text ≡ true → length c ≤ length d → begins c d ≡ true
unfolding begins
begins-both [] d text h k le = refl
begins-both (b ∷ c) [] text h k le = absurd (omega arith)
begins-both (b ∷ c) (e ∷ d) [] h k le = absurd cc
begins-both (true ∷ c) (true ∷ d) (true ∷ text) h k le = begins-both c d text h k (omega arith)
begins-both (true ∷ c) (false ∷ d) (true ∷ text) h k le = absurd cc
begins-both (false ∷ c) (true ∷ d) (true ∷ text) h k le = absurd cc
begins-both (false ∷ c) (false ∷ d) (true ∷ text) h k le = absurd cc
begins-both (true ∷ c) (true ∷ d) (false ∷ text) h k le = absurd cc
begins-both (true ∷ c) (false ∷ d) (false ∷ text) h k le = absurd cc
begins-both (false ∷ c) (true ∷ d) (false ∷ text) h k le = absurd cc
begins-both (false ∷ c) (false ∷ d) (false ∷ text) h k le = begins-both c d text h k (omega arith)

-- a text, cut behind the code
pub begins-cut : (n : ℕ) (code text : List Bool) → length code ≤ n → begins code text ≡ true → begins code (take n text) ≡ true
unfolding begins
begins-cut n [] text le h = refl
begins-cut n (b ∷ code) [] le h = absurd cc
begins-cut zero (b ∷ code) (c ∷ text) le h = absurd (omega arith)
begins-cut (suc n) (true ∷ code) (true ∷ text) le h = begins-cut n code text (omega arith) h
begins-cut (suc n) (true ∷ code) (false ∷ text) le h = absurd cc
begins-cut (suc n) (false ∷ code) (true ∷ text) le h = absurd cc
begins-cut (suc n) (false ∷ code) (false ∷ text) le h = begins-cut n code text (omega arith) h

pub begins-uncut : (n : ℕ) (code text : List Bool) → begins code (take n text) ≡ true → begins code text ≡ true
unfolding begins
begins-uncut n [] text h = refl
begins-uncut zero (b ∷ code) text h = absurd cc
begins-uncut (suc n) (b ∷ code) [] h = absurd cc
begins-uncut (suc n) (true ∷ code) (true ∷ text) h = begins-uncut n code text h
begins-uncut (suc n) (true ∷ code) (false ∷ text) h = absurd cc
begins-uncut (suc n) (false ∷ code) (true ∷ text) h = absurd cc
begins-uncut (suc n) (false ∷ code) (false ∷ text) h = begins-uncut n code text h

-- a text with others behind it
pub begins-more : (code text later : List Bool) → begins code text ≡ true → begins code (text ++ later) ≡ true
unfolding begins
begins-more [] text later h = refl
begins-more (b ∷ code) [] later h = absurd cc
begins-more (true ∷ code) (true ∷ text) later h = begins-more code text later h
begins-more (true ∷ code) (false ∷ text) later h = absurd cc
begins-more (false ∷ code) (true ∷ text) later h = absurd cc
begins-more (false ∷ code) (false ∷ text) later h = begins-more code text later h

pub begins-less : (code text later : List Bool) → length code ≤ length text → begins code (text ++ later) ≡ true → begins code text ≡ true
unfolding begins
begins-less [] text later le h = refl
begins-less (b ∷ code) [] later le h = absurd (omega arith)
begins-less (true ∷ code) (true ∷ text) later le h = begins-less code text later (omega arith) h
begins-less (true ∷ code) (false ∷ text) later le h = absurd cc
begins-less (false ∷ code) (true ∷ text) later le h = absurd cc
begins-less (false ∷ code) (false ∷ text) later le h = begins-less code text later (omega arith) h

-- ---- what is found

record Place (codes : List (List Bool)) (first : ℕ) (text : List Bool) (s : ℕ) : Type 0 where
  place : ℕ
  place_is : s ≡ first + place
  within : place < length codes
  found : begins (code_of codes place) text ≡ true

find-place : (codes : List (List Bool)) (first : ℕ) (text : List Bool) (s : ℕ) → find_symbol codes first text ≡ Some s → Place codes first text s
unfolding find_symbol
find-place [] first text s h = absurd cc
find-place (code ∷ codes) first text s h = go (begins code text) refl (λ e. find-place codes (suc first) text s e) h
  where
    go : (b : Bool) → begins code text ≡ b → (find_symbol codes (suc first) text ≡ Some s → Place codes (suc first) text s)
        → cond b (Some first) (find_symbol codes (suc first) text) ≡ Some s → Place (code ∷ codes) first text s
    go true here later e = let same : first ≡ s = cc in record { place = 0; place_is = omega arith; within = omega arith; found = here }
    go false other later e = let f = later e in record { place = suc f.place; place_is = omega (arith, f.place_is); within = omega (arith, f.within); found = f.found }

pub find-none : (codes : List (List Bool)) (first : ℕ) (text : List Bool) (i : ℕ) → find_symbol codes first text ≡ None → i < length codes → begins (code_of codes i) text ≡ false
unfolding find_symbol
find-none [] first text i h lt = absurd (omega arith)
find-none (code ∷ codes) first text i h lt = go (begins code text) refl (λ j e l. find-none codes (suc first) text j e l) h i lt
  where
    go : (b : Bool) → begins code text ≡ b → ((j : ℕ) → find_symbol codes (suc first) text ≡ None → j < length codes → begins (code_of codes j) text ≡ false)
        → cond b (Some first) (find_symbol codes (suc first) text) ≡ None
        → (i : ℕ) → i < length (code ∷ codes) → begins (code_of (code ∷ codes) i) text ≡ false
    go true here later e i lt = absurd cc
    go false other later e zero lt = other
    go false other later e (suc i) lt = later i e (omega arith)

pub all-none : (codes : List (List Bool)) (first : ℕ) (text : List Bool) → ((i : ℕ) → i < length codes → begins (code_of codes i) text ≡ false) → find_symbol codes first text ≡ None
unfolding find_symbol
all-none [] first text h = refl
all-none (code ∷ codes) first text h =
    let later = all-none codes (suc first) text (λ i lt. h (suc i) (omega arith)) in
    rw (h 0 (omega arith)) later

-- where no code that begins the text may be, none is found
pub none-begins : (book : List (List Bool)) (text : List Bool) → ((i : ℕ) → i < length book → begins (code_of book i) text ≡ true → ⊥) → find_symbol book 0 text ≡ None
none-begins book text h = all-none book 0 text (λ i lt. go i lt (begins (code_of book i) text) refl)
  where
    go : (i : ℕ) → i < length book → (b : Bool) → begins (code_of book i) text ≡ b → begins (code_of book i) text ≡ false
    go i lt false e = e
    go i lt true e = absurd (h i lt e)

-- what is found in a book is the symbol itself
pub record At (book : List (List Bool)) (text : List Bool) (s : ℕ) : Type 0 where
  pub within : s < length book
  pub found : begins (code_of book s) text ≡ true

pub find-at : (book : List (List Bool)) (text : List Bool) (s : ℕ) → find_symbol book 0 text ≡ Some s → At book text s
find-at book text s h =
    let f = find-place book 0 text s h in
    let same : f.place ≡ s = omega (arith, f.place_is) in
    record { within = omega (arith, f.within); found = subst (λ (i : ℕ). begins (code_of book i) text ≡ true) same f.found }

pub only-one : (book : List (List Bool)) → IsBook book → (text : List Bool) (s t : ℕ) → At book text s → At book text t → s ≡ t
only-one book is text s t a b = elim (cases_lt (length (code_of book t)) (length (code_of book s))) [
  | inl lt ↦ sym (is.no_prefix t s b.within a.within (begins-both (code_of book t) (code_of book s) text b.found a.found (omega arith)))
  | inr le ↦ is.no_prefix s t a.within b.within (begins-both (code_of book s) (code_of book t) text a.found b.found le)
]

pub at-find : (book : List (List Bool)) → IsBook book → (text : List Bool) (s : ℕ) → At book text s → find_symbol book 0 text ≡ Some s
at-find book is text s a = go (find_symbol book 0 text) refl
  where
    go : (o : Option ℕ) → find_symbol book 0 text ≡ o → find_symbol book 0 text ≡ Some s
    go None e = let f = find-none book 0 text s e a.within in let g = a.found in absurd cc
    go (Some t) e = e ∙ ap (λ (i : ℕ). Some i) (only-one book is text t s (find-at book text t e) a)

-- ---- tests

all_below-at : (n i : ℕ) (f : ℕ → Bool) → all_below n f ≡ true → i < n → f i ≡ true
unfolding all_below
all_below-at zero i f h lt = absurd (omega arith)
all_below-at (suc n) i f h lt =
    let both = and_parts (f n) (all_below n f) h in
    at (eqb i n) refl both.0 (λ ne. all_below-at n i f both.1 ne)
  where
    at : (b : Bool) → eqb i n ≡ b → f n ≡ true → (i < n → f i ≡ true) → f i ≡ true
    at true same here later = ap f (eqb-true i n same) ∙ here
    at false other here later = let ne : i < n = grind (arith, other) in later ne

free_at : (a b : Bool) → (not a || b) ≡ true → a ≡ true → b ≡ true
free_at true b h k = h
free_at false b h k = absurd cc

-- the test of nine bits
whole_test : Option ℕ → ℕ → Bool
whole_test o n = same_bool (is_some o) (not (eqb n 0 || eqb n 128))

none_at : (o : Option ℕ) (n : ℕ) → IsNone n → whole_test o n ≡ true → o ≡ None
unfolding whole_test
none_at None n h t = refl
none_at (Some s) n (inl z) t = let k : (not (eqb n 0 || eqb n 128)) ≡ false = rw z refl in absurd cc
none_at (Some s) n (inr z) t = let k : (not (eqb n 0 || eqb n 128)) ≡ false = rw z refl in absurd cc

some_at : (o : Option ℕ) (n : ℕ) → (IsNone n → ⊥) → whole_test o n ≡ true → (s : ℕ) × (o ≡ Some s)
unfolding whole_test
some_at (Some s) n h t = (s, refl)
some_at None n h t = absurd (h (one_of (eqb n 0) (eqb n 128) refl refl t))
  where
    one_of : (a b : Bool) → eqb n 0 ≡ a → eqb n 128 ≡ b → not (not (eqb n 0 || eqb n 128)) ≡ true → (n ≡ 0) ⊎ (n ≡ 128)
    one_of true b e d k = inl (eqb-true n 0 e)
    one_of false true e d k = inr (eqb-true n 128 d)
    one_of false false e d k = absurd cc

is_none-small : (n : ℕ) → IsNone n → n < 512
is_none-small n (inl z) = omega arith
is_none-small n (inr z) = omega arith

pub book_is : {book : List (List Bool)} → Passes book → IsBook book
unfolding is_free is_wide is_whole whole_test
book_is {book} p = record {
  no_prefix = λ s t hs ht h. eqb-true s t (free_at (begins (code_of book s) (code_of book t)) (eqb s t) (all_below-at (length book) t _ (all_below-at (length book) s _ p.free hs) ht) h);
  shortest = λ s h. leb-true 1 (length (code_of book s)) ((and_parts (leb 1 (length (code_of book s))) (leb (length (code_of book s)) 9) (all_below-at (length book) s _ p.wide h)).0);
  longest = λ s h. leb-true (length (code_of book s)) 9 ((and_parts (leb 1 (length (code_of book s))) (leb (length (code_of book s)) 9) (all_below-at (length book) s _ p.wide h)).1);
  none = λ n s h lt. find-none book 0 (bits 9 n) s (none_at (find_symbol book 0 (bits 9 n)) n h (all_below-at 512 n _ p.whole (is_none-small n h))) lt;
  some = λ n lt h.
      let found = some_at (find_symbol book 0 (bits 9 n)) n h (all_below-at 512 n _ p.whole lt) in
      let a = find-at book (bits 9 n) found.0 found.1 in
      (found.0, a.within, a.found);
}
