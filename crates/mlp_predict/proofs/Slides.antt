-- Values that slide down a buffer.
use Rattle.std.proofs.Common.{◌≡◌, ℕ, zero, suc, ◌+◌, ◌-◌, ◌<◌, ◌≤◌, List, [], ◌∷◌, length, take, drop, arith, refl, ◌∙◌, ap}
use Rattle.std.proofs.Math.ListN.{set}
use Rattle.std.proofs.Math.Seq.{take-set-lt}
use Rattle.std.proofs.lemmas.List.{drop-set}
use Rattle.std.proofs.lemmas.Grind.{common_steps}
use Rattle.std.specs.List.{copy_within}

-- a value that is put in front of the values from `at`
pub slid : {A : Type 0} (xs : List A) (at n : ℕ) (v : A) → 0 < n → 0 < at → at ≤ length xs → take n (drop (at - 1) (set xs (at - 1) v)) ≡ v ∷ take (n - 1) (drop at xs)
slid xs at (suc n) v h k l =
    rw (drop-set xs (at - 1) v (omega arith)) (ap (λ (j : ℕ). v ∷ take n (drop j xs)) (let e : at - 1 + 1 ≡ at = omega arith in e) ∙ ap (λ (j : ℕ). v ∷ take j (drop at xs)) (let e : n ≡ suc n - 1 = omega arith in e))
slid xs at zero v h k l = absurd (omega arith)

pub moved : {A : Type 0} (xs : List A) (n : ℕ) → 0 < n → n ≤ 16 → length xs ≡ 64 → take (n - 1) (drop (65 - n) (copy_within xs 0 (n - 1) (65 - n))) ≡ take (n - 1) xs
moved xs n h k l = grind (arith, common_steps)

-- the latest values after a push, from the buffer's start
pub pushed_low : {A : Type 0} (xs old : List A) (n : ℕ) (v : A) (ys : List A) (at : ℕ) → ys ≡ copy_within xs 0 (n - 1) (65 - n)
    → at ≡ 65 - n → 0 < n → n ≤ 16 → length xs ≡ 64 → old ≡ take n xs → take n (drop (at - 1) (set ys
    (at - 1) v)) ≡ v ∷ take (n - 1) old
pushed_low xs old n v ys at e f h k l o = grind (arith, common_steps, slid ys at n v, moved xs n h k l)

-- .. and from elsewhere in it
pub pushed_high : {A : Type 0} (xs old : List A) (n at : ℕ) (v : A) → 0 < at → at + n ≤ 64 → 0 < n → length xs ≡ 64 → old ≡ take n (drop at xs) → take n (drop (at - 1) (set xs (at - 1) v)) ≡ v ∷ take (n - 1) old
pushed_high xs old n at v h k l m o = grind (arith, common_steps, slid xs at n v)

-- a value in the place of another one
pub set-window : {A : Type 0} (xs : List A) (n at i : ℕ) (v : A) → i < n → take n (drop at (set xs (at + i) v)) ≡ set (take n (drop at xs)) i v
set-window xs n zero i v h = rw (let e : zero + i ≡ i = omega arith in e) (take-set-lt n xs i v h)
set-window [] (suc n) (suc at) i v h = refl
set-window [] zero (suc at) i v h = absurd (omega arith)
set-window (x ∷ xs) n (suc at) i v h = rw (let e : suc at + i ≡ suc (at + i) = omega arith in e) (set-window xs n at i v h)
