-- Values read one after the other.
use Rattle.std.proofs.Common.{◌≡◌, ℕ, zero, suc, ◌+◌, ◌-◌, ◌*◌, ◌<◌, ◌≤◌, List, [], ◌∷◌, ◌++◌, length, take, drop, set, get_or, replicate, ℤ, pos, arith, refl, sym, ◌∙◌, ap, subst, Bool, true, false, IsTrue}
use Rattle.std.specs.List.{list_all}
use Rattle.std.proofs.Math.Nat.{mul-le-mul, mul-le-mul_right}
use Rattle.std.proofs.lemmas.Grind.{common_steps}
use Rattle.std.proofs.lemmas.List.{take_more_set, drop-set-lt, drop-drop, length-drop, drop-replicate, append_assoc, append-nil, take-append-drop, take_at, get_or_at, length-append}
use Rattle.mlp_pcm.specs.Samples.{pieces, IsFirstFailing}

module _ {A : Type 0} where
  pub pieces_more : (value : List ℕ → A) (size n : ℕ) (bytes : List ℕ) → 0 < n → pieces value size n bytes ≡ value bytes ∷ pieces value size (n - 1) (drop size bytes)
  unfolding pieces
  pieces_more value size zero bytes h = absurd (omega arith)
  pieces_more value size (suc n) bytes h = ap (λ m. value bytes ∷ pieces value size m (drop size bytes)) (let e : n ≡ suc n - 1 = omega arith in e)

  pub pieces_none : (value : List ℕ → A) (size n : ℕ) (bytes : List ℕ) → n ≡ 0 → pieces value size n bytes ≡ []
  unfolding pieces
  pieces_none value size zero bytes h = refl
  pieces_none value size (suc n) bytes h = absurd (omega arith)

  pub pieces_length : (value : List ℕ → A) (size n : ℕ) (bytes : List ℕ) → length (pieces value size n bytes) ≡ n
  unfolding pieces
  pieces_length value size zero bytes = refl
  pieces_length value size (suc n) bytes = ap suc (pieces_length value size n (drop size bytes))

-- one piece is taken
pub left_more : (size n i : ℕ) (rest after : List ℕ) → i < n → after ≡ drop size rest → (n - i) * size ≤ length rest → (n - (i + 1)) * size ≤ length after
left_more size n i rest after h e l =
    let k : n - i ≡ suc (n - (i + 1)) = omega arith in
    let m : suc (n - (i + 1)) * size ≡ (n - (i + 1)) * size + size = grind arith in
    omega (arith, ap length e, length-drop size rest, ap (λ j. j * size) k, m)

-- a sample is put into a row
pub row_more : (value : List ℕ → ℤ) (size n i : ℕ) (row : List ℤ) (rest after : List ℕ) (all : List ℤ) → i < n → i < length row → after ≡ drop size rest
    → take i row ++ pieces value size (n - i) rest ≡ all → take (i + 1) (set row i (value rest)) ++ pieces value size (n - (i + 1)) after ≡ all
row_more value size n i row rest after all h l e done =
    ap (λ xs. xs ++ pieces value size (n - (i + 1)) after) (take_more_set row i (value rest) l)
    ∙ append_assoc (take i row) (value rest ∷ []) (pieces value size (n - (i + 1)) after)
    ∙ ap (λ xs. take i row ++ value rest ∷ pieces value size (n - (i + 1)) xs) e
    ∙ ap (λ m. take i row ++ value rest ∷ pieces value size m (drop size rest)) (let k : n - (i + 1) ≡ n - i - 1 = omega arith in k)
    ∙ ap (λ xs. take i row ++ xs) (sym (pieces_more value size (n - i) rest (omega arith))) ∙ done

pub zero_more : (i : ℕ) (row : List ℤ) (x : ℤ) → i < 8 → drop i row ≡ replicate (8 - i) (pos 0) → drop (i + 1) (set row i x) ≡ replicate (8 - (i + 1)) (pos 0)
zero_more i row x h e =
    drop-set-lt (i + 1) row i x (omega arith) ∙ sym (drop-drop 1 i row) ∙ ap (λ (xs : List ℤ). drop 1 xs) e
    ∙ drop-replicate 1 (8 - i) (pos 0) ∙ ap (λ n. replicate n (pos 0)) (let k : 8 - i - 1 ≡ 8 - (i + 1) = omega arith in k)

pub row_whole : (value : List ℕ → ℤ) (size n i : ℕ) (row : List ℤ) (rest : List ℕ) (all : List ℤ) → i ≡ n
    → take i row ++ pieces value size (n - i) rest ≡ all → drop i row ≡ replicate (8 - i) (pos 0) → row ≡ all ++ replicate (8 - n) (pos 0)
row_whole value size n i row rest all e done zeros =
    sym (take-append-drop i row)
    ∙ ap (λ xs. xs ++ drop i row) (sym (append-nil (take i row)) ∙ ap (λ xs. take i row ++ xs) (sym (pieces_none value size (n - i) rest (omega arith))) ∙ done)
    ∙ ap (λ xs. all ++ xs) (zeros ∙ ap (λ m. replicate (8 - m) (pos 0)) e)

-- a value is put behind the others
module _ {A : Type 0} where
  next_piece : (value : List ℕ → A) (size n i : ℕ) (items : List A) (rest : List ℕ) (all : List A) → i < n
      → items ++ pieces value size (n - i) rest ≡ all → items ++ value rest ∷ pieces value size (n - i - 1) (drop size rest) ≡ all
  next_piece value size n i items rest all h done = ap (λ xs. items ++ xs) (sym (pieces_more value size (n - i) rest (omega arith))) ∙ done

  pub done_more : (value : List ℕ → A) (size n i : ℕ) (items : List A) (rest after : List ℕ) (all : List A) → i < n → after ≡ drop size rest → items ++ pieces value size (n - i) rest ≡ all
      → (items ++ value rest ∷ []) ++ pieces value size (n - (i + 1)) after ≡ all
  done_more value size n i items rest after all h e done =
      append_assoc items (value rest ∷ []) (pieces value size (n - (i + 1)) after)
      ∙ ap (λ xs. items ++ value rest ∷ pieces value size (n - (i + 1)) xs) e
      ∙ ap (λ m. items ++ value rest ∷ pieces value size m (drop size rest)) (let k : n - (i + 1) ≡ n - i - 1 = omega arith in k)
      ∙ next_piece value size n i items rest all h done

  pub all_more : (test : A → Bool) (items : List A) (x : A) → IsTrue (list_all test items) → test x ≡ true → IsTrue (list_all test (items ++ x ∷ []))
  all_more test [] x h e = grind (arith, common_steps)
  all_more test (y ∷ items) x h e = grind (arith, common_steps, all_more test items x)

-- the test fails at a row, and at none before
pub first_failing : (test : List ℤ → Bool) (value : List ℕ → List ℤ) (size n i : ℕ) (items : List (List ℤ)) (rest : List ℕ) (all : List (List ℤ))
    → i < n → length items ≡ i → items ++ pieces value size (n - i) rest ≡ all
    → IsTrue (list_all test items) → test (value rest) ≡ false → IsFirstFailing test all i × (items ≡ take i all)
first_failing test value size n i items rest all h l done clear fails =
    let e = next_piece value size n i items rest all h done in
    let t : items ≡ take i all = sym (take_at items (value rest ∷ pieces value size (n - i - 1) (drop size rest)) i l) ∙ ap (take i) e in
    let g : get_or all i [] ≡ value rest = ap (λ xs. get_or xs i []) (sym e) ∙ get_or_at items (value rest) (pieces value size (n - i - 1) (drop size rest)) [] i l in (
      record {
        within = omega (arith, ap length e, length-append items (value rest ∷ pieces value size (n - i - 1) (drop size rest)));
        before = subst (λ xs. IsTrue (list_all test xs)) t clear;
        here = ap test g ∙ fails;
      },
      t,
    )

-- there is room for a piece more
pub one_more_fits : (n i size : ℕ) → i < n → i * size + size ≤ n * size
one_more_fits n i size h = let m : suc i * size ≡ i * size + size = grind arith in omega (arith, m, mul-le-mul_right {m = suc i} {n = n} size h)

pub all_fit : (n size : ℕ) → n ≤ 160 → size ≤ 24 → n * size ≤ 3840
all_fit n size h k = omega (arith, mul-le-mul {n₁ = n} {m₁ = size} {n₂ = 160} {m₂ = 24} h k)
