-- Choices that are tried one after the other.
use Rattle.std.proofs.Common.{◌≡◌, ℕ, zero, suc, ◌+◌, ◌-◌, ◌<◌, ◌≤◌, ℤ, List, [], ◌∷◌, ◌++◌, Option, None, arith, refl, sym, ◌∙◌, ap, add-one, append_assoc}
use Rattle.std.specs.List.{flat_map, range_with_len}
use Rattle.std.proofs.lemmas.List.{append-nil}
use Rattle.mlp_search.specs.declared.choice.Choice.{Choice}
use Rattle.mlp_search.specs.Least.{better, least_from, with_offsets, with_lows, with_books}

-- choices behind others go on from the best of those
pub least_from-append : (cost : Choice → Option ℕ) (best : Option Choice) (xs ys : List Choice) → least_from cost best (xs ++ ys) ≡ least_from cost (least_from cost best xs) ys
least_from-append cost best [] ys = refl
least_from-append cost best (x ∷ xs) ys = least_from-append cost (better best x (cost x)) xs ys

pub range_behind : (f : ℕ → List Choice) (a n j : ℕ) → a + n ≡ j → flat_map f (range_with_len a (suc n)) ≡ flat_map f (range_with_len a n) ++ f j
range_behind f a zero j e = let same : a ≡ j = omega (arith, e) in append-nil (f a) ∙ ap f same
range_behind f a (suc n) j e =
    let later = range_behind f (a + 1) n j (omega (arith, e)) in
    ap (λ (xs : List Choice). f a ++ xs) later ∙ sym (append_assoc (f a) (flat_map f (range_with_len (a + 1) n)) (f j))

pub range_more : (f : ℕ → List Choice) (n : ℕ) → flat_map f (range_with_len 0 (n + 1)) ≡ flat_map f (range_with_len 0 n) ++ f n
range_more f n = rw add-one (range_behind f 0 n n (omega arith))

-- a scan that goes on by one more number
pub scan_more : (cost : Choice → Option ℕ) (f : ℕ → List Choice) (start best next : Option Choice) (n : ℕ) → best ≡ least_from cost start (flat_map f (range_with_len 0 n)) → next ≡ least_from cost best (f n)
    → next ≡ least_from cost start (flat_map f (range_with_len 0 (n + 1)))
scan_more cost f start best next n e is =
    is
    ∙ ap (λ (b : Option Choice). least_from cost b (f n)) e
    ∙ sym (least_from-append cost start (flat_map f (range_with_len 0 n)) (f n))
    ∙ ap (least_from cost start) (sym (range_more f n))

-- ---- what holds of each choice of a list

abbrev pub Along : (Choice → Type 0) → List Choice → Type 0
Along P [] = Unit {0}
Along P (c ∷ cs) = P c × Along P cs

along_append : (P : Choice → Type 0) (xs ys : List Choice) → Along P xs → Along P ys → Along P (xs ++ ys)
along_append P [] ys h k = k
along_append P (x ∷ xs) ys h k = (h.0, along_append P xs ys h.1 k)

pub along_range : (P : Choice → Type 0) (f : ℕ → List Choice) (a n : ℕ) → ((j : ℕ) → a ≤ j → j < a + n → Along P (f j)) → Along P (flat_map f (range_with_len a n))
along_range P f a zero h = tt
along_range P f a (suc n) h = along_append P (f a) (flat_map f (range_with_len (a + 1) n)) (h a (omega arith) (omega arith)) (along_range P f (a + 1) n (λ j le lt. h j (omega (arith, le)) (omega (arith, lt))))

-- the choices of a number are its choices
pub books_along : (P : Choice → Type 0) (n : ℕ) (mid : ℤ) → ((c : Choice) → c.filter ≡ n → P c) → Along P (with_books n mid)
books_along P n mid h = along_range P (with_lows n mid) 0 4 (λ book le lt. along_range P (with_offsets n mid book) 0 32 (λ low le lt. (h _ refl, (h _ refl, tt))))

-- ---- choices that have no cost, or the same

pub none_scanned : (cost : Choice → Option ℕ) (best : Option Choice) (xs : List Choice) → Along (λ c. cost c ≡ None) xs → least_from cost best xs ≡ best
none_scanned cost best [] h = refl
none_scanned cost best (x ∷ xs) h = ap (λ (o : Option ℕ). least_from cost (better best x o) xs) h.0 ∙ none_scanned cost best xs h.1

pub same_scanned : (f g : Choice → Option ℕ) (best : Option Choice) (xs : List Choice) → Along (λ c. f c ≡ g c) xs → least_from f best xs ≡ least_from g best xs
same_scanned f g best [] h = refl
same_scanned f g best (x ∷ xs) h = ap (λ (o : Option ℕ). least_from f (better best x o) xs) h.0 ∙ same_scanned f g (better best x (g x)) xs h.1

pub kept_scanned : (cost : Choice → Option ℕ) (best : Option Choice) (xs : List Choice) → Along (λ c. better best c (cost c) ≡ best) xs → least_from cost best xs ≡ best
kept_scanned cost best [] h = refl
kept_scanned cost best (x ∷ xs) h = ap (λ (b : Option Choice). least_from cost b xs) h.0 ∙ kept_scanned cost best xs h.1

-- ---- numbers in two parts

range_parts : (f : ℕ → List Choice) (a m n : ℕ) → flat_map f (range_with_len a (m + n)) ≡ flat_map f (range_with_len a m) ++ flat_map f (range_with_len (a + m) n)
range_parts f a zero n =
    let l : zero + n ≡ n = omega arith in
    let r : a + zero ≡ a = omega arith in
    ap (λ (k : ℕ). flat_map f (range_with_len a k)) l ∙ ap (λ (k : ℕ). flat_map f (range_with_len k n)) (sym r)
range_parts f a (suc m) n =
    let l : suc m + n ≡ suc (m + n) = omega arith in
    let r : a + 1 + m ≡ a + suc m = omega arith in
    ap (λ (k : ℕ). flat_map f (range_with_len a k)) l
    ∙ ap (λ (xs : List Choice). f a ++ xs) (range_parts f (a + 1) m n ∙ ap (λ (k : ℕ). flat_map f (range_with_len (a + 1) m) ++ flat_map f (range_with_len k n)) r)
    ∙ sym (append_assoc (f a) (flat_map f (range_with_len (a + 1) m)) (flat_map f (range_with_len (a + suc m) n)))

-- what is found up to a number is all, where the rest leaves it as it is
pub scan_stops : (cost : Choice → Option ℕ) (f : ℕ → List Choice) (start best : Option Choice) (n m : ℕ) → n ≤ m → best ≡ least_from cost start (flat_map f (range_with_len 0 n))
    → ((j : ℕ) → n ≤ j → j < m → Along (λ c. better best c (cost c) ≡ best) (f j)) → best ≡ least_from cost start (flat_map f (range_with_len 0 m))
scan_stops cost f start best n m le e rest =
    let whole : n + (m - n) ≡ m = omega (arith, le) in
    let from : zero + n ≡ n = omega arith in
    let kept = kept_scanned cost best (flat_map f (range_with_len n (m - n))) (along_range (λ c. better best c (cost c) ≡ best) f n (m - n) (λ j l u. rest j l (omega (arith, u, whole)))) in
    sym kept
    ∙ ap (λ (b : Option Choice). least_from cost b (flat_map f (range_with_len n (m - n)))) e
    ∙ sym (least_from-append cost start (flat_map f (range_with_len 0 n)) (flat_map f (range_with_len n (m - n))))
    ∙ ap (least_from cost start)
    (ap (λ (k : ℕ). flat_map f (range_with_len 0 n) ++ flat_map f (range_with_len k (m - n))) (sym from) ∙ sym (range_parts f 0 n (m - n)) ∙ ap (λ (k : ℕ). flat_map f (range_with_len 0 k)) whole)

-- .. and none is found before a number, where all leave it as it is
pub scan_begins : (cost : Choice → Option ℕ) (f : ℕ → List Choice) (start : Option Choice) (n : ℕ) → ((j : ℕ) → j < n → Along (λ c. better start c (cost c) ≡ start) (f j)) → start ≡ least_from cost start (flat_map f (range_with_len 0 n))
scan_begins cost f start n rest = sym (kept_scanned cost start (flat_map f (range_with_len 0 n)) (along_range (λ c. better start c (cost c) ≡ start) f 0 n (λ j l u. rest j (omega (arith, u)))))

-- a scan from a number on that goes on by one more
pub scan_more_from : (cost : Choice → Option ℕ) (f : ℕ → List Choice) (start best next : Option Choice) (a n : ℕ) → a ≤ n → best ≡ least_from cost start (flat_map f (range_with_len a (n - a))) → next ≡ least_from cost best (f n)
    → next ≡ least_from cost start (flat_map f (range_with_len a (n + 1 - a)))
scan_more_from cost f start best next a n le e is =
    let one : suc (n - a) ≡ n + 1 - a = omega (arith, le) in
    is
    ∙ ap (λ (b : Option Choice). least_from cost b (f n)) e
    ∙ sym (least_from-append cost start (flat_map f (range_with_len a (n - a))) (f n))
    ∙ ap (least_from cost start) (sym (range_behind f a (n - a) n (omega (arith, le))) ∙ ap (λ (k : ℕ). flat_map f (range_with_len a k)) one)

pub scan_more_behind : (cost : Choice → Option ℕ) (f : ℕ → List Choice) (start best next : Option Choice) (n : ℕ) → 1 ≤ n → best ≡ least_from cost start (flat_map f (range_with_len 1 (n - 1))) → next ≡ least_from cost best (f n)
    → next ≡ least_from cost start (flat_map f (range_with_len 1 (n + 1 - 1)))
scan_more_behind cost f start best next n some e is = scan_more_from cost f start best next 1 n some e is

-- the first number, and those behind it
pub scan_joined : (cost : Choice → Option ℕ) (f : ℕ → List Choice) (start first best : Option Choice) (n : ℕ) → first ≡ least_from cost start (f 0) → best ≡ least_from cost first (flat_map f (range_with_len 1 n))
    → best ≡ least_from cost start (flat_map f (range_with_len 0 (suc n)))
scan_joined cost f start first best n e is = is ∙ ap (λ (b : Option Choice). least_from cost b (flat_map f (range_with_len 1 n))) e ∙ sym (least_from-append cost start (f 0) (flat_map f (range_with_len 1 n)))

-- two scans one behind the other
pub scan_continued : (cost : Choice → Option ℕ) (f : ℕ → List Choice) (start first best : Option Choice) (a m n : ℕ) → first ≡ least_from cost start (flat_map f (range_with_len a m))
    → best ≡ least_from cost first (flat_map f (range_with_len (a + m) n))
    → best ≡ least_from cost start (flat_map f (range_with_len a (m + n)))
scan_continued cost f start first best a m n e is =
    is
    ∙ ap (λ (b : Option Choice). least_from cost b (flat_map f (range_with_len (a + m) n))) e
    ∙ sym (least_from-append cost start (flat_map f (range_with_len a m)) (flat_map f (range_with_len (a + m) n)))
    ∙ ap (least_from cost start) (sym (range_parts f a m n))

-- a scan from a number on that has come to its end
pub scan_ends : (cost : Choice → Option ℕ) (f : ℕ → List Choice) (start best : Option Choice) (a n m : ℕ) → n ≡ a + m → best ≡ least_from cost start (flat_map f (range_with_len a (n - a)))
    → best ≡ least_from cost start (flat_map f (range_with_len a m))
scan_ends cost f start best a n m same e = let count : n - a ≡ m = omega (arith, same) in e ∙ ap (λ (k : ℕ). least_from cost start (flat_map f (range_with_len a k))) count

-- the first number alone
pub scan_first : (cost : Choice → Option ℕ) (f : ℕ → List Choice) (start best : Option Choice) → best ≡ least_from cost start (f 0) → best ≡ least_from cost start (flat_map f (range_with_len 0 1))
scan_first cost f start best e = e ∙ ap (least_from cost start) (sym (append-nil (f 0)))

-- numbers that leave the best as it is
pub scan_kept : (cost : Choice → Option ℕ) (f : ℕ → List Choice) (best : Option Choice) (a n : ℕ) → ((j : ℕ) → a ≤ j → j < a + n → best ≡ least_from cost best (f j)) → best ≡ least_from cost best (flat_map f (range_with_len a n))
scan_kept cost f best a zero h = refl
scan_kept cost f best a (suc n) h =
    scan_kept cost f best (a + 1) n (λ j from to. h j (omega (arith, from)) (omega (arith, to)))
    ∙ ap (λ (b : Option Choice). least_from cost b (flat_map f (range_with_len (a + 1) n))) (h a (omega arith) (omega arith))
    ∙ sym (least_from-append cost best (f a) (flat_map f (range_with_len (a + 1) n)))
