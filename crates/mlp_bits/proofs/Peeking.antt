-- Bits ahead, and bytes behind.
use Rattle.std.proofs.Common.{◌≡◌, ℕ, zero, suc, ◌+◌, ◌-◌, ◌*◌, ◌%◌, ◌^◌, ◌<◌, ◌≤◌, Bool, false, List, [], ◌∷◌, ◌++◌, length, take, drop, replicate, refl, sym, ap, ◌∙◌, arith}
use Rattle.std.proofs.lemmas.List.{length-drop, length-replicate, take-replicate, take-append-le, take_at, take-append-drop, length-take}
use Rattle.std.proofs.Math.Seq.{take-append-add}
use Rattle.std.proofs.lemmas.Nat.{shl_whole}
use Rattle.mlp_bits.specs.Bits.{bits_of, number}
use Rattle.mlp_bits.specs.Cursor.{Cursor, left, peeked}
use Rattle.mlp_bits.proofs.BitLists.{number-append, length-bits_of, rem_from-parts}
use Rattle.mlp_bits.specs.Checks.{Modulus, rem_from}
use Rattle.mlp_bits.proofs.Fields.{number-take}
use Rattle.mlp_bits.proofs.Words.{bits_of-drop, bits_of-append}

number-zeros : (n : ℕ) → number (replicate n false) ≡ 0
unfolding number
number-zeros zero = refl
number-zeros (suc n) = omega (arith, number-zeros n)

pub peeked-fits : (w : ℕ) (c : Cursor) → peeked w c < 2 ^ w
unfolding peeked
peeked-fits w c = number-take w (left c ++ replicate w false)

pub peeked-whole : (w : ℕ) (c : Cursor) → w ≤ length (left c) → peeked w c ≡ number (take w (left c))
unfolding peeked
peeked-whole w c le = ap number (take-append-le w (left c) (replicate w false) le)

whole-take : (xs : List Bool) → take (length xs) xs ≡ xs
whole-take [] = refl
whole-take (x ∷ xs) = ap (λ (t : List Bool). x ∷ t) (whole-take xs)

pub peeked-cut : (w n : ℕ) (c : Cursor) → n ≡ length (left c) → n < w → peeked w c ≡ number (take n (left c)) * 2 ^ (w - n)
unfolding peeked
peeked-cut w n c len lt =
    let xs = left c in
    let m = w - n in
    let w-is : w ≡ length xs + m = omega (arith, len) in
    let front : take (length xs + m) (xs ++ replicate w false) ≡ xs ++ replicate m false = take-append-add xs (replicate w false) m ∙ ap (λ t. xs ++ t) (take-replicate m w false (omega arith)) in
    let all : take n xs ≡ xs = ap (λ (k : ℕ). take k xs) len ∙ whole-take xs in
    let e : take w (xs ++ replicate w false) ≡ xs ++ replicate m false = ap (λ (k : ℕ). take k (xs ++ replicate w false)) w-is ∙ front in
    rw (e, all, number-append xs (replicate m false), length-replicate m false, number-zeros m) (omega arith)

pub peeked-shifted : (w n r : ℕ) (c : Cursor) → n ≡ length (left c) → n < w → w ≤ 16 → r ≡ number (take n (left c)) → r * 2 ^ (w - n) % 4294967296 ≡ peeked w c
peeked-shifted w n r c len lt le is =
    let small : r < 2 ^ n = rw is (number-take n (left c)) in
    shl_whole r n (w - n) 32 small (omega arith) ∙ ap (λ (k : ℕ). k * 2 ^ (w - n)) is ∙ sym (peeked-cut w n c len lt)

-- the bytes between two places
pub bits_of-between : (bytes : List ℕ) (f n : ℕ) → f + n ≤ length bytes → bits_of (take n (drop f bytes)) ≡ take (8 * n) (drop (8 * f) (bits_of bytes))
bits_of-between bytes f n le =
    let ys = drop f bytes in
    let split : bits_of ys ≡ bits_of (take n ys) ++ bits_of (drop n ys) = ap bits_of (sym (take-append-drop n ys)) ∙ bits_of-append (take n ys) (drop n ys) in
    let len : length (bits_of (take n ys)) ≡ 8 * n = omega (arith, length-bits_of (take n ys), length-take n ys, length-drop f bytes) in
    rw (bits_of-drop bytes f, split) (sym (take_at (bits_of (take n ys)) (bits_of (drop n ys)) (8 * n) len))

-- a remainder by whole bytes, and by the bits on either side of them
pub rem_from-over : (m : Modulus) (r first start last end : ℕ) (bytes : List ℕ) → first ≤ 8 * start → start ≤ last → 8 * last ≤ end → last ≤ length bytes
    → rem_from m (rem_from m (rem_from m r (take (8 * start - first) (drop first (bits_of bytes)))) (bits_of (take (last - start) (drop start bytes)))) (take (end - 8 * last) (drop (8 * last) (bits_of bytes)))
    ≡ rem_from m r (take (end - first) (drop first (bits_of bytes)))
rem_from-over m r first start last end bytes a b c d =
    let whole : 8 * (last - start) ≡ 8 * last - 8 * start = omega arith in
    rw (bits_of-between bytes start (last - start) (omega arith), whole, rem_from-parts m r first (8 * start) (8 * last) (bits_of bytes) a (omega arith)) (rem_from-parts m r first (8 * last) end (bits_of bytes) (omega arith) c)
