-- A number of 64 bits is two of 32.
use Rattle.std.proofs.Common.{◌≡◌, ℕ, ◌+◌, ◌*◌, ◌%◌, ◌^◌, ◌<◌, ◌≤◌, leb, Bool, true, false, List, ◌++◌, length, take, drop, Ok, refl, sym, ap, ◌∙◌, arith, inl, inr}
use Rattle.std.proofs.lemmas.Bool.{le-leb, cases_lt}
use Rattle.std.proofs.lemmas.List.{length-drop, length-take, drop-drop}
use Rattle.std.proofs.lemmas.Nat.{shl_whole}
use Rattle.mlp_bits.specs.Bits.{number}
use Rattle.mlp_bits.specs.Cursor.{Cursor, left, moved}
use Rattle.mlp_bits.proofs.BitLists.{number-append}
use Rattle.std.proofs.Math.Seq.{take-add}
use Rattle.mlp_layout.specs.Reading.{Read, number_at}
use Rattle.mlp_layout.specs.Layout.{number_of}

two_halves : (xs : List Bool) → 64 ≤ length xs → number (take 64 xs) ≡ number (take 32 xs) * 2 ^ 32 + number (take 32 (drop 32 xs))
two_halves xs long =
    let len : length (take 32 (drop 32 xs)) ≡ 32 = omega (arith, length-take 32 (drop 32 xs), length-drop 32 xs) in
    let split : take 64 xs ≡ take 32 xs ++ take 32 (drop 32 xs) = take-add 32 32 xs in
    rw (split, number-append (take 32 xs) (take 32 (drop 32 xs)), len) refl

pub wide_is : (a b c : Cursor) (h l : ℕ) → a.place ≤ length a.all → b ≡ moved 32 a → c ≡ moved 32 b
    → h ≡ number (take 32 (left a)) → l ≡ number (take 32 (left b)) → h < 2 ^ 32 → (length (left b) < 32 → false ≡ true)
    → ((number_of 64).read a.all a.place ≡ Ok (h * 2 ^ 32 % 2 ^ 64 + l, c.place)) × (c.all ≡ a.all) × (a.place ≤ c.place)
unfolding number_of number_at
wide_is a b c h l within b-is c-is h-is l-is small enough =
    let xs = left a in
    let b-all : b.all ≡ a.all = ap (λ (d : Cursor). d.all) b-is in
    let b-place : b.place ≡ a.place + 32 = ap (λ (d : Cursor). d.place) b-is in
    let c-all : c.all ≡ b.all = ap (λ (d : Cursor). d.all) c-is in
    let c-place : c.place ≡ b.place + 32 = ap (λ (d : Cursor). d.place) c-is in
    let b-left : left b ≡ drop 32 xs = ap left b-is ∙ sym (drop-drop-sum 32 a.place a.all) in
    let long : 64 ≤ length xs = elim (cases_lt (length (left b)) 32) [
      | inl lt ↦ let e = enough lt in absurd cc
      | inr ge ↦ omega (arith, ap (λ (t : List Bool). length t) b-left, length-drop 32 xs)
    ] in
    let room : leb (a.place + 64) (length a.all) ≡ true = le-leb _ _ (omega (arith, length-drop a.place a.all)) in
    let value : number (take 64 xs) ≡ h * 2 ^ 32 % 2 ^ 64 + l = two_halves xs long
    ∙ rw (h-is, l-is, b-left) (sym (ap (λ (n : ℕ). n + number (take 32 (drop 32 xs))) (shl_whole (number (take 32 xs)) 32 32 64 (rw (← h-is) small) (omega arith)))) in
    let end : a.place + 64 ≡ c.place = omega arith in
    (rw (room, value) (ap (λ (q : ℕ). ok_of (h * 2 ^ 32 % 2 ^ 64 + l, q)) end), c-all ∙ b-all, omega arith)
  where
    ok_of : ℕ × ℕ → Read ℕ
    ok_of x = Ok x

    drop-drop-sum : (n p : ℕ) (xs : List Bool) → drop n (drop p xs) ≡ drop (p + n) xs
    drop-drop-sum n p xs = drop-drop n p xs
