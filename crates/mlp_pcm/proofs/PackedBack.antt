-- Rows and their bytes.
use Rattle.std.proofs.Common.{◌≡◌, ℕ, zero, suc, ◌+◌, ◌-◌, ◌*◌, ◌/◌, ◌%◌, ◌^◌, ◌<◌, ◌≤◌, List, [], ◌∷◌, ◌++◌, length, take, drop, replicate, get_or, ℤ, pos, Bool, true, false, IsTrue, inl, inr, arith, refl, sym, ◌∙◌, ap, subst, w64, cond}
use Rattle.std.specs.Prelude.{◌*ℤ◌, ◌==◌, All}
use Rattle.std.specs.List.{list_all, flat_map}
use Rattle.std.proofs.lemmas.Int.{ints}
use Rattle.std.proofs.lemmas.Bool.Decides.{nat_tests}
use Rattle.std.proofs.lemmas.Grind.{common_steps}
use Rattle.std.proofs.lemmas.Nat.{div-add-mod'}
use Rattle.std.proofs.Math.Seq.{take-add}
use Rattle.std.proofs.Math.Nat.{div-eq_of_eq-mul_left, mul-mod_left}
use Rattle.std.proofs.lemmas.List.{append-nil, append_assoc, length-append, length-take-le, length-drop, length-replicate, take_at, drop_at, take_all, take-append-drop}
use Rattle.std.proofs.lemmas.List.Elements.{All-nil, All-cons, All-head, All-tail, All-append, All-drop, All-take, All-replicate}
use Rattle.byteorder.specs.Endian.{little_number, little_bytes, low_bytes, twos_complement}
use Rattle.byteorder.specs.Numbers.{little_number-reads_back}
use Rattle.mlp_pcm.specs.Samples.{sample_in, pieces, row_in, rows_in, is_clear, are_clear, sample_bytes, row_bytes, packed, Is24, IsForm, IsRow, AreFrames, is_packable}
use Rattle.mlp_pcm.proofs.SampleBytes.{low_back, complement_back, two_bytes, is_24, clear_24, clear_16}
use Rattle.mlp_pcm.proofs.Pieces.{pieces_length}

abbrev IsByte : ℕ → Type 0
IsByte b = b < 256

abbrev three : ℕ → ℕ → ℕ → ℕ
three a b c = a + 256 * (b + 256 * (c + 256 * 0))

three_bytes : (a b c : ℕ) → a < 256 → b < 256 → c < 256 → little_bytes 3 (three a b c) ≡ a ∷ b ∷ c ∷ []
three_bytes a b c h k l =
    let x : three a b c % 256 ≡ a = omega arith in
    let y : three a b c / 256 % 256 ≡ b = omega arith in
    let z : three a b c / 65536 % 256 ≡ c = omega arith in
    rw (x, y, z) refl

two_upper : (a b : ℕ) → a < 256 → b < 256 → drop 1 (little_bytes 3 (256 * (a + 256 * (b + 256 * 0)))) ≡ a ∷ b ∷ []
two_upper a b h k =
    let x : 256 * (a + 256 * (b + 256 * 0)) / 256 % 256 ≡ a = omega arith in
    let y : 256 * (a + 256 * (b + 256 * 0)) / 65536 % 256 ≡ b = omega arith in
    rw (x, y) refl

-- a sample's bytes
back_24 : (bytes : List ℕ) → 3 ≤ length bytes → All IsByte bytes → sample_bytes 24 (sample_in 3 bytes) ≡ take 3 bytes
unfolding sample_bytes sample_in
back_24 [] l h = absurd (omega arith)
back_24 (a ∷ []) l h = absurd (omega arith)
back_24 (a ∷ b ∷ []) l h = absurd (omega arith)
back_24 (a ∷ b ∷ c ∷ rest) l h =
    let x : a < 256 = h 0 0 (omega arith) in
    let y : b < 256 = h 1 0 (omega arith) in
    let z : c < 256 = h 2 0 (omega arith) in
    ap (little_bytes 3) (low_back (three a b c) (omega arith)) ∙ three_bytes a b c x y z

back_16 : (bytes : List ℕ) → 2 ≤ length bytes → All IsByte bytes → sample_bytes 16 (sample_in 2 bytes) ≡ take 2 bytes
unfolding sample_bytes sample_in
back_16 [] l h = absurd (omega arith)
back_16 (a ∷ []) l h = absurd (omega arith)
back_16 (a ∷ b ∷ rest) l h =
    let x : a < 256 = h 0 0 (omega arith) in
    let y : b < 256 = h 1 0 (omega arith) in
    let m = a + 256 * (b + 256 * 0) in
    ap (λ s. drop 1 (little_bytes 3 (low_bytes w64 3 s))) (two_bytes m (omega arith)) ∙ ap (λ n. drop 1 (little_bytes 3 n)) (low_back (256 * m) (omega arith)) ∙ two_upper a b x y

-- .. and a sample of bytes
forth_24 : (s : ℤ) (rest : List ℕ) → Is24 s → sample_in 3 (sample_bytes 24 s ++ rest) ≡ s
unfolding sample_bytes sample_in
forth_24 s rest h = ap (twos_complement 3) (little_number-reads_back 3 (low_bytes w64 3 s) rest (omega arith)) ∙ complement_back s h

upper_number : (x : ℕ) (rest : List ℕ) → x < 2 ^ 24 → little_number 2 (drop 1 (little_bytes 3 x) ++ rest) ≡ x / 256
upper_number x rest h = omega arith

forth_16 : (s : ℤ) (rest : List ℕ) → Is24 s → is_clear 16 s ≡ true → sample_in 2 (sample_bytes 16 s ++ rest) ≡ s
unfolding sample_bytes sample_in is_clear
forth_16 s rest h k =
    let x = low_bytes w64 3 s in
    let l : low_bytes w64 3 s < 2 ^ 24 = omega arith in
    let d : 256 * (low_bytes w64 3 s / 256) ≡ low_bytes w64 3 s = grind (arith, nat_tests, k) in
    ap (λ n. twos_complement 2 n *ℤ pos 256) (upper_number x rest l) ∙ two_bytes (x / 256) (omega arith) ∙ ap (twos_complement 3) d ∙ complement_back s h

-- the same at either width
module _ (width depth : ℕ) (form : IsForm width depth) where
  back : (bytes : List ℕ) → width ≤ length bytes → All IsByte bytes → sample_bytes (8 * width) (sample_in width bytes) ≡ take width bytes
  back bytes l h = elim form as (λ _. sample_bytes (8 * width) (sample_in width bytes) ≡ take width bytes) [
    | inl f ↦ rw f.0 (back_16 bytes (omega (arith, f.0)) h)
    | inr f ↦ rw f.0 (back_24 bytes (omega (arith, f.0)) h)
  ]

  forth : (s : ℤ) (rest : List ℕ) → Is24 s → is_clear depth s ≡ true → sample_in width (sample_bytes (8 * width) s ++ rest) ≡ s
  forth s rest h k = elim form as (λ _. sample_in width (sample_bytes (8 * width) s ++ rest) ≡ s) [
    | inl f ↦ rw f.0 (forth_16 s rest h (subst (λ d. is_clear d s ≡ true) f.1 k))
    | inr f ↦ rw f.0 (forth_24 s rest h)
  ]

module _ {A : Type 0} where
  -- what is put of values that were read
  put_pieces : (put : A → List ℕ) (value : List ℕ → A) (size n : ℕ) (bytes : List ℕ) → ((bs : List ℕ) → size ≤ length bs → All IsByte bs → put (value bs) ≡ take size bs)
      → n * size ≤ length bytes → All IsByte bytes → flat_map put (pieces value size n bytes) ≡ take (n * size) bytes
  unfolding pieces
  put_pieces put value size zero bytes same l h = let e : 0 ≡ 0 * size = omega arith in ap (λ j. take j bytes) e
  put_pieces put value size (suc n) bytes same l h =
      let m : suc n * size ≡ size + n * size = grind arith in
      let k : n * size ≤ length (drop size bytes) = omega (arith, m, length-drop size bytes) in
      ap (λ xs. xs ++ flat_map put (pieces value size n (drop size bytes))) (same bytes (omega (arith, m)) h)
      ∙ ap (λ xs. take size bytes ++ xs) (put_pieces put value size n (drop size bytes) same k (All-drop IsByte size bytes h))
      ∙ sym (take-add size (n * size) bytes) ∙ ap (λ j. take j bytes) (sym m)

  -- what is read of values that were put
  get_pieces : (put : A → List ℕ) (value : List ℕ → A) (size : ℕ) (xs : List A) (rest : List ℕ) → All (λ x. length (put x) ≡ size) xs → All (λ x. (bs : List ℕ) → value (put x ++ bs) ≡ x) xs
      → pieces value size (length xs) (flat_map put xs ++ rest) ≡ xs
  unfolding pieces
  get_pieces put value size [] rest l same = refl
  get_pieces put value size (x ∷ xs) rest l same =
      let k : length (put x) ≡ size = All-head (λ x. length (put x) ≡ size) x xs l in
      let e = append_assoc (put x) (flat_map put xs) rest in
      let d : drop size ((put x ++ flat_map put xs) ++ rest) ≡ flat_map put xs ++ rest = ap (λ ys. drop size ys) e ∙ drop_at (put x) (flat_map put xs ++ rest) size k in
      ap (λ ys. value ys ∷ pieces value size (length xs) (drop size ((put x ++ flat_map put xs) ++ rest))) e
      ∙ ap (λ y. y ∷ pieces value size (length xs) (drop size ((put x ++ flat_map put xs) ++ rest))) (All-head (λ x. (bs : List ℕ) → value (put x ++ bs) ≡ x) x xs same (flat_map put xs ++ rest))
      ∙ ap (λ ys. x ∷ pieces value size (length xs) ys) d
      ∙ ap (λ ys. x ∷ ys) (get_pieces put value size xs rest (All-tail (λ x. length (put x) ≡ size) x xs l) (All-tail (λ x. (bs : List ℕ) → value (put x ++ bs) ≡ x) x xs same))

  -- what holds of each value that is read
  all_pieces : (P : A → Type 0) (value : List ℕ → A) (size n : ℕ) (bytes : List ℕ) → ((bs : List ℕ) → size ≤ length bs → All IsByte bs → P (value bs))
      → n * size ≤ length bytes → All IsByte bytes → All P (pieces value size n bytes)
  unfolding pieces
  all_pieces P value size zero bytes holds l h = All-nil P
  all_pieces P value size (suc n) bytes holds l h =
      let m : suc n * size ≡ size + n * size = grind arith in
      let k : n * size ≤ length (drop size bytes) = omega (arith, m, length-drop size bytes) in
      All-cons P (value bytes) (pieces value size n (drop size bytes)) (holds bytes (omega (arith, m)) h) (all_pieces P value size n (drop size bytes) holds k (All-drop IsByte size bytes h))

  -- a test of all
  all_true : (test : A → Bool) (xs : List A) → All (λ x. test x ≡ true) xs → list_all test xs ≡ true
  all_true test [] h = refl
  all_true test (x ∷ xs) h = let e = All-head (λ x. test x ≡ true) x xs h in let f = all_true test xs (All-tail (λ x. test x ≡ true) x xs h) in grind (arith, common_steps, e, f)

  true_head : (test : A → Bool) (x : A) (xs : List A) → list_all test (x ∷ xs) ≡ true → test x ≡ true
  true_head test x xs h = grind (arith, common_steps, h)

  true_tail : (test : A → Bool) (x : A) (xs : List A) → list_all test (x ∷ xs) ≡ true → list_all test xs ≡ true
  true_tail test x xs h = grind (arith, common_steps, h)

  true_all : (test : A → Bool) (xs : List A) → list_all test xs ≡ true → All (λ x. test x ≡ true) xs
  true_all test [] h = All-nil (λ x. test x ≡ true)
  true_all test (x ∷ xs) h = All-cons (λ x. test x ≡ true) x xs (true_head test x xs h) (true_all test xs (true_tail test x xs h))

  both : (P Q R : A → Type 0) (xs : List A) → ((x : A) → P x → Q x → R x) → All P xs → All Q xs → All R xs
  both P Q R xs step p q = λ k d h. step _ (p k d h) (q k d h)

  all_put : (P : ℕ → Type 0) (put : A → List ℕ) (xs : List A) → ((x : A) → All P (put x)) → All P (flat_map put xs)
  all_put P put [] h = All-nil P
  all_put P put (x ∷ xs) h = All-append P (put x) (flat_map put xs) (h x) (all_put P put xs h)

  length_put : (put : A → List ℕ) (size : ℕ) (xs : List A) → All (λ x. length (put x) ≡ size) xs → length (flat_map put xs) ≡ length xs * size
  length_put put size [] h = omega arith
  length_put put size (x ∷ xs) h =
      let m : suc (length xs) * size ≡ size + length xs * size = grind arith in
      omega (arith, m, length-append (put x) (flat_map put xs), All-head (λ x. length (put x) ≡ size) x xs h, length_put put size xs (All-tail (λ x. length (put x) ≡ size) x xs h))

-- the bytes of a sample
all_three : (x : ℕ) → All IsByte (little_bytes 3 x)
all_three x =
    let a : x % 256 < 256 = omega arith in
    let b : x / 256 % 256 < 256 = omega arith in
    let c : x / 65536 % 256 < 256 = omega arith in
    All-cons IsByte (x % 256) (x / 256 % 256 ∷ x / 65536 % 256 ∷ []) a (All-cons IsByte (x / 256 % 256) (x / 65536 % 256 ∷ []) b (All-cons IsByte (x / 65536 % 256) [] c (All-nil IsByte)))

all_either : (b : Bool) (xs ys : List ℕ) → All IsByte xs → All IsByte ys → All IsByte (cond b xs ys)
all_either true xs ys h k = h
all_either false xs ys h k = k

byte_samples : (bits : ℕ) (s : ℤ) → All IsByte (sample_bytes bits s)
unfolding sample_bytes
byte_samples bits s =
    let x = low_bytes w64 3 s in
    all_either (bits == 16) (drop 1 (little_bytes 3 x)) (little_bytes 3 x) (All-drop IsByte 1 (little_bytes 3 x) (all_three x)) (all_three x)

length_sample : (width depth : ℕ) → IsForm width depth → (s : ℤ) → length (sample_bytes (8 * width) s) ≡ width
unfolding sample_bytes
length_sample width depth form s = elim form as (λ _. length (sample_bytes (8 * width) s) ≡ width) [
  | inl f ↦ rw f.0 refl
  | inr f ↦ rw f.0 refl
]

-- the number in bytes
two_small : (bytes : List ℕ) → 2 ≤ length bytes → All IsByte bytes → little_number 2 bytes < 2 ^ 16
two_small bytes l h = let a : get_or bytes 0 0 < 256 = h 0 0 (omega arith) in let b : get_or bytes 1 0 < 256 = h 1 0 (omega arith) in omega arith

three_small : (bytes : List ℕ) → 3 ≤ length bytes → All IsByte bytes → little_number 3 bytes < 2 ^ 24
three_small bytes l h = let a : get_or bytes 0 0 < 256 = h 0 0 (omega arith) in let b : get_or bytes 1 0 < 256 = h 1 0 (omega arith) in let c : get_or bytes 2 0 < 256 = h 2 0 (omega arith) in omega arith

two_clear : (bytes : List ℕ) → 2 ≤ length bytes → All IsByte bytes → is_clear 16 (sample_in 2 bytes) ≡ true
unfolding sample_in
two_clear bytes l h = let m = two_small bytes l h in ap (is_clear 16) (two_bytes (little_number 2 bytes) m) ∙ clear_16 (little_number 2 bytes) m

two_is_24 : (bytes : List ℕ) → 2 ≤ length bytes → All IsByte bytes → Is24 (sample_in 2 bytes)
unfolding sample_in
two_is_24 bytes l h = let m = two_small bytes l h in subst Is24 (sym (two_bytes (little_number 2 bytes) m)) (is_24 (256 * little_number 2 bytes) (omega arith))

three_is_24 : (bytes : List ℕ) → 3 ≤ length bytes → All IsByte bytes → Is24 (sample_in 3 bytes)
unfolding sample_in
three_is_24 bytes l h = is_24 (little_number 3 bytes) (three_small bytes l h)

zero_is_24 : Is24 (pos 0)
zero_is_24 = record { low = grind (arith, ints); high = grind (arith, ints) }

module _ (width depth channels : ℕ) (form : IsForm width depth) (one : 1 ≤ channels) (eight : channels ≤ 8) where
  -- a row's bytes
  row_back : (bytes : List ℕ) → channels * width ≤ length bytes → All IsByte bytes → row_bytes (8 * width) channels (row_in width channels bytes) ≡ take (channels * width) bytes
  row_back bytes l h =
      ap (flat_map (sample_bytes (8 * width))) (take_at (pieces (sample_in width) width channels bytes) (replicate (8 - channels) (pos 0)) channels (pieces_length (sample_in width) width channels bytes))
      ∙ put_pieces (sample_bytes (8 * width)) (sample_in width) width channels bytes (back width depth form) l h

  -- .. and a row of bytes
  row_forth : (row : List ℤ) (rest : List ℕ) → IsRow depth channels row → row_in width channels (row_bytes (8 * width) channels row ++ rest) ≡ row
  row_forth row rest r =
      let few : length (take channels row) ≡ channels = omega (arith, length-take-le channels row (omega (arith, r.eight))) in
      let sizes : All (λ s. length (sample_bytes (8 * width) s) ≡ width) (take channels row) = λ k d h. length_sample width depth form _ in
      let clear = All-take (λ s. is_clear depth s ≡ true) channels row (true_all (is_clear depth) row r.clear) in
      let same : All (λ s. (bs : List ℕ) → sample_in width (sample_bytes (8 * width) s ++ bs) ≡ s) (take channels row)
      = both Is24 (λ s. is_clear depth s ≡ true) (λ s. (bs : List ℕ) → sample_in width (sample_bytes (8 * width) s ++ bs) ≡ s) (take channels row)
      (λ s a b bs. forth width depth form s bs a b) (All-take Is24 channels row r.samples) clear in
      ap (λ n. pieces (sample_in width) width n (row_bytes (8 * width) channels row ++ rest) ++ replicate (8 - channels) (pos 0)) (sym few)
      ∙ ap (λ xs. xs ++ replicate (8 - channels) (pos 0)) (get_pieces (sample_bytes (8 * width)) (sample_in width) width (take channels row) rest sizes same)
      ∙ ap (λ xs. take channels row ++ xs) (sym r.rest) ∙ take-append-drop channels row

  abbrev size : ℕ
  size = channels * width

  some : 0 < size
  some = elim form as (λ _. 0 < size) [
    | inl f ↦ omega (arith, ap (λ w. channels * w) f.0)
    | inr f ↦ omega (arith, ap (λ w. channels * w) f.0)
  ]

  count_whole : (bytes : List ℕ) → length bytes % size ≡ 0 → length bytes / size * size ≡ length bytes
  count_whole bytes h = omega (arith, div-add-mod' (length bytes) size, h)

  -- all bytes
  pub packed_back : (bytes : List ℕ) → AreFrames width channels bytes → packed (8 * width) channels (rows_in width channels bytes) ≡ bytes
  packed_back bytes r =
      let n : length bytes / size * size ≡ length bytes = count_whole bytes r.whole in
      put_pieces (row_bytes (8 * width) channels) (row_in width channels) size (length bytes / size) bytes row_back (omega (arith, n)) r.small
      ∙ take_all (length bytes / size * size) bytes (omega (arith, n))

  packable_sample : (bytes : List ℕ) → width ≤ length bytes → All IsByte bytes → is_clear (8 * width) (sample_in width bytes) ≡ true
  packable_sample bytes l h = elim form as (λ _. is_clear (8 * width) (sample_in width bytes) ≡ true) [
    | inl f ↦ rw f.0 (two_clear bytes (omega (arith, f.0)) h)
    | inr f ↦ rw f.0 (clear_24 (sample_in 3 bytes))
  ]

  packable_row : (bytes : List ℕ) → size ≤ length bytes → All IsByte bytes → is_packable (8 * width) channels (row_in width channels bytes) ≡ true
  packable_row bytes l h =
      let samples = pieces (sample_in width) width channels bytes in
      ap (are_clear (8 * width)) (take_at samples (replicate (8 - channels) (pos 0)) channels (pieces_length (sample_in width) width channels bytes))
      ∙ all_true (is_clear (8 * width)) samples (all_pieces (λ s. is_clear (8 * width) s ≡ true) (sample_in width) width channels bytes packable_sample l h)

  pub packable : (bytes : List ℕ) → AreFrames width channels bytes → IsTrue (list_all (is_packable (8 * width) channels) (rows_in width channels bytes))
  packable bytes r =
      all_true (is_packable (8 * width) channels) (rows_in width channels bytes)
      (all_pieces (λ row. is_packable (8 * width) channels row ≡ true) (row_in width channels) size (length bytes / size) bytes packable_row (omega (arith, count_whole bytes r.whole)) r.small)

  -- rows that were unpacked
  sample_is_24 : (bytes : List ℕ) → width ≤ length bytes → All IsByte bytes → Is24 (sample_in width bytes)
  sample_is_24 bytes l h = elim form as (λ _. Is24 (sample_in width bytes)) [
    | inl f ↦ rw f.0 (two_is_24 bytes (omega (arith, f.0)) h)
    | inr f ↦ rw f.0 (three_is_24 bytes (omega (arith, f.0)) h)
  ]

  row_is : (bytes : List ℕ) → size ≤ length bytes → All IsByte bytes → are_clear depth (row_in width channels bytes) ≡ true → IsRow depth channels (row_in width channels bytes)
  row_is bytes l h clear =
      let samples = pieces (sample_in width) width channels bytes in
      let zeros = replicate (8 - channels) (pos 0) in
      let n = pieces_length (sample_in width) width channels bytes in
      record {
        eight = omega (arith, length-append samples zeros, n, length-replicate (8 - channels) (pos 0));
        samples = All-append Is24 samples zeros (all_pieces Is24 (sample_in width) width channels bytes sample_is_24 l h) (All-replicate Is24 (8 - channels) (pos 0) zero_is_24);
        clear = clear;
        rest = drop_at samples zeros channels n;
      }

  pub unpacked_are_rows : (bytes : List ℕ) → AreFrames width channels bytes → IsTrue (list_all (are_clear depth) (rows_in width channels bytes)) → All (IsRow depth channels) (rows_in width channels bytes)
  unpacked_are_rows bytes r clear =
      both (λ row. are_clear depth row ≡ true → IsRow depth channels row) (λ row. are_clear depth row ≡ true) (IsRow depth channels) (rows_in width channels bytes) (λ row step c. step c)
      (all_pieces (λ row. are_clear depth row ≡ true → IsRow depth channels row) (row_in width channels) size (length bytes / size) bytes row_is (omega (arith, count_whole bytes r.whole)) r.small)
      (true_all (are_clear depth) (rows_in width channels bytes) clear)

  -- rows that were packed
  length_row : (row : List ℤ) → IsRow depth channels row → length (row_bytes (8 * width) channels row) ≡ size
  length_row row r =
      let few : length (take channels row) ≡ channels = omega (arith, length-take-le channels row (omega (arith, r.eight))) in
      length_put (sample_bytes (8 * width)) width (take channels row) (λ k d h. length_sample width depth form _) ∙ ap (λ n. n * width) few

  module _ (rows : List (List ℤ)) (are : All (IsRow depth channels) rows) where
    sizes : All (λ row. length (row_bytes (8 * width) channels row) ≡ size) rows
    sizes = λ k d h. length_row _ (are k d h)

    whole_length : length (packed (8 * width) channels rows) ≡ length rows * size
    whole_length = length_put (row_bytes (8 * width) channels) size rows sizes

    pub unpacked_back : rows_in width channels (packed (8 * width) channels rows) ≡ rows
    unpacked_back =
        let all = packed (8 * width) channels rows in
        let n : length all / size ≡ length rows = div-eq_of_eq-mul_left {n = size} some whole_length in
        ap (λ m. pieces (row_in width channels) size m all) n
        ∙ ap (pieces (row_in width channels) size (length rows)) (sym (append-nil all))
        ∙ get_pieces (row_bytes (8 * width) channels) (row_in width channels) size rows [] sizes (λ k d h bs. row_forth _ bs (are k d h))

    pub packed_frames : AreFrames width channels (packed (8 * width) channels rows)
    packed_frames = record {
      small = all_put IsByte (row_bytes (8 * width) channels) rows (λ row. all_put IsByte (sample_bytes (8 * width)) (take channels row) (byte_samples (8 * width)));
      whole = ap (λ n. n % size) whole_length ∙ mul-mod_left (length rows) size;
    }

    pub all_packable : IsTrue (list_all (is_packable (8 * width) channels) rows)
    all_packable = subst (λ rs. IsTrue (list_all (is_packable (8 * width) channels) rs)) unpacked_back (packable (packed (8 * width) channels rows) packed_frames)

    pub all_clear : IsTrue (list_all (are_clear depth) rows)
    all_clear = all_true (are_clear depth) rows (λ k d h. (are k d h).clear)
