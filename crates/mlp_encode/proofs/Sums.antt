-- Sums of numbers over numbers from one on.
use Rattle.std.proofs.Common.{◌≡◌, ℕ, zero, suc, ◌+◌, ◌*◌, ◌<◌, ◌≤◌, List, [], ◌∷◌, ◌++◌, map, length, refl, sym, ap, arith}
use Rattle.std.proofs.lemmas.List.{length-append}
use Rattle.std.specs.List.{range_with_len}
use Rattle.mlp_layout.specs.Layout.{Layout, made, item}
use Rattle.mlp_layout.specs.Combined.{series}

abbrev pub sums : (ℕ → ℕ) → ℕ → ℕ → ℕ
sums f a zero = 0
sums f a (suc n) = f a + sums f (a + 1) n

pub sums_most : (f : ℕ → ℕ) (b a n : ℕ) → ((i : ℕ) → a ≤ i → i < a + n → f i ≤ b) → sums f a n ≤ n * b
sums_most f b a zero h = omega arith
sums_most f b a (suc n) h =
    let first = h a (omega arith) (omega arith) in
    let rest = sums_most f b (a + 1) n (λ i from to. h i (omega (arith, from)) (omega (arith, to))) in
    omega (arith, first, rest)

pub sums_add : (f g : ℕ → ℕ) (a n : ℕ) → sums (λ i. f i + g i) a n ≡ sums f a n + sums g a n
sums_add f g a zero = refl
sums_add f g a (suc n) = let rest = sums_add f g (a + 1) n in omega (arith, rest)

sums_zero : (a n : ℕ) → sums (λ i. 0) a n ≡ 0
sums_zero a zero = refl
sums_zero a (suc n) = let rest = sums_zero (a + 1) n in omega (arith, rest)

-- two sums, one in the other
pub sums_swap : (g : ℕ → ℕ → ℕ) (a n b m : ℕ) → sums (λ i. sums (λ c. g i c) b m) a n ≡ sums (λ c. sums (λ i. g i c) a n) b m
sums_swap g a zero b m = sym (sums_zero b m)
sums_swap g a (suc n) b m =
    let rest = sums_swap g (a + 1) n b m in
    let both = sums_add (λ c. g a c) (λ c. sums (λ i. g i c) (a + 1) n) b m in
    omega (arith, rest, both)

sums_shift : (f : ℕ → ℕ) (a n : ℕ) → sums f (a + 1) n ≡ sums (λ i. f (suc i)) a n
sums_shift f a zero = refl
sums_shift f a (suc n) =
    let s : a + 1 ≡ suc a = omega arith in
    let first : f (a + 1) ≡ f (suc a) = ap f s in
    let rest = sums_shift f (a + 1) n in
    omega (arith, first, rest)

pub sums_from_one : (f : ℕ → ℕ) (n : ℕ) → sums f 1 n ≡ sums (λ i. f (suc i)) 0 n
sums_from_one f n = sums_shift f 0 n

-- ---- the lengths of lists of values

pub series_long : {A : Type 0} (l : Layout A) (f : ℕ → A) (a n : ℕ) (before : List A) → length ((series (λ _. l) n before).spelling (map f (range_with_len a n))) ≡ sums (λ i. length (l.spelling (f i))) a n
unfolding series item made
series_long l f a zero before = refl
series_long l f a (suc n) before =
    let rest = series_long l f (a + 1) n (before ++ f a ∷ []) in
    let both = length-append (l.spelling (f a)) ((series (λ _. l) n (before ++ f a ∷ [])).spelling (map f (range_with_len (a + 1) n))) in
    omega (arith, rest, both)
