-- One bit of what was written.
use Rattle.std.proofs.Common.{◌≡◌, ℕ, suc, ◌+◌, ◌-◌, ◌*◌, ◌/◌, ◌%◌, ◌^◌, ◌<◌, ◌≤◌, Bool, List, ◌∷◌, ◌++◌, length, get_or, take, drop, eqb, bit_and, refl, sym, ap, ◌∙◌, subst, arith}
use Rattle.std.proofs.lemmas.List.{drop-append-le, drop-drop, drop_at, drop_all, get_or-take, length-take}
use Rattle.std.proofs.lemmas.Nat.Bits.{shr_and_one}
use Rattle.mlp_bits.specs.Bits.{bits, bits_of}
use Rattle.mlp_bits.specs.Checks.{Modulus, step, rem_from}
use Rattle.mlp_bits.proofs.BitLists.{bits-drop, bits-step, bits_of-bit, length-bits_of, rem_from-step}

-- the bit stands in the whole bytes
pub bit-whole : (bytes : List ℕ) (pending place : ℕ) (self : List Bool) (i : ℕ) → place / 8 ≤ length bytes → bits_of (take (place / 8) bytes) ++ bits (place % 8) pending ≡ self
    → i / 8 < place / 8 → drop i self ≡ eqb (bit_and (get_or bytes (i / 8) 0 / 2 ^ (7 - i % 8)) 1) 1 ∷ drop (i + 1) self
bit-whole bytes pending place self i within is lt =
    let whole = take (place / 8) bytes in
    let tail = bits (place % 8) pending in
    let n : length whole ≡ place / 8 = omega (arith, length-take (place / 8) bytes) in
    let len = length-bits_of whole in
    let a : drop i (bits_of whole ++ tail) ≡ drop i (bits_of whole) ++ tail = drop-append-le i (bits_of whole) tail (omega (arith, len)) in
    let b : drop (i + 1) (bits_of whole ++ tail) ≡ drop (i + 1) (bits_of whole) ++ tail = drop-append-le (i + 1) (bits_of whole) tail (omega (arith, len)) in
    let c = bits_of-bit whole i (omega (arith, n)) in
    let same : get_or whole (i / 8) 0 ≡ get_or bytes (i / 8) 0 = get_or-take (place / 8) bytes (i / 8) 0 lt in
    rw (← is, ← same) (a ∙ ap (λ t. t ++ tail) c ∙ ap (λ t. eqb (bit_and (get_or whole (i / 8) 0 / 2 ^ (7 - i % 8)) 1) 1 ∷ t) (sym b))

-- the bit stands behind them
pub bit-behind : (bytes : List ℕ) (pending place : ℕ) (self : List Bool) (i : ℕ) → place / 8 ≤ length bytes → bits_of (take (place / 8) bytes) ++ bits (place % 8) pending ≡ self
    → place / 8 ≤ i / 8 → i < place → drop i self ≡ eqb (bit_and (pending / 2 ^ (place - 1 - i)) 1) 1 ∷ drop (i + 1) self
bit-behind bytes pending place self i within is from to =
    let all = take (place / 8) bytes in
    let count = place % 8 in
    let o = i % 8 in
    let k = place - 1 - i in
    let n : length all ≡ place / 8 = omega (arith, length-take (place / 8) bytes) in
    let whole : length (bits_of all) ≡ 8 * (place / 8) = omega (arith, length-bits_of all, n) in
    let here : 8 * (place / 8) + o ≡ i = omega arith in
    let next : 8 * (place / 8) + (o + 1) ≡ i + 1 = omega arith in
    let tail : drop (8 * (place / 8)) (bits_of all ++ bits count pending) ≡ bits count pending = drop_at (bits_of all) (bits count pending) (8 * (place / 8)) whole in
    let c : count ≡ o + suc k = omega arith in
    let d : count ≡ (o + 1) + k = omega arith in
    let first : drop o (bits count pending) ≡ bits (suc k) pending = subst (λ (m : ℕ). drop o (bits m pending) ≡ bits (suc k) pending) (sym c) (bits-drop o (suc k) pending) in
    let later : drop (o + 1) (bits count pending) ≡ bits k pending = subst (λ (m : ℕ). drop (o + 1) (bits m pending) ≡ bits k pending) (sym d) (bits-drop (o + 1) k pending) in
    let a : drop i self ≡ bits (suc k) pending = ap (drop i) (sym is) ∙ ap (λ (m : ℕ). drop m (bits_of all ++ bits count pending)) (sym here) ∙ to-tail o ∙ ap (drop o) tail ∙ first in
    let b : drop (i + 1) self ≡ bits k pending = ap (drop (i + 1)) (sym is) ∙ ap (λ (m : ℕ). drop m (bits_of all ++ bits count pending)) (sym next) ∙ to-tail (o + 1) ∙ ap (drop (o + 1)) tail ∙ later in
    let t : bit_and (pending / 2 ^ k) 1 ≡ pending / 2 ^ k % 2 = shr_and_one pending k in
    a ∙ bits-step k pending ∙ ap (λ (m : ℕ). eqb m 1 ∷ bits k pending) (sym t) ∙ ap (λ rest. eqb (bit_and (pending / 2 ^ k) 1) 1 ∷ rest) (sym b)
  where
    to-tail : (m : ℕ) → drop (8 * (place / 8) + m) (bits_of (take (place / 8) bytes) ++ bits (place % 8) pending) ≡ drop m (drop (8 * (place / 8)) (bits_of (take (place / 8) bytes) ++ bits (place % 8) pending))
    to-tail m = sym (drop-drop m (8 * (place / 8)) (bits_of (take (place / 8) bytes) ++ bits (place % 8) pending))

-- a remainder takes the next bit, and has taken the last
pub rem_from-next : (m : Modulus) (r s i : ℕ) (b : Bool) (bs : List Bool) → drop i bs ≡ b ∷ drop (i + 1) bs → s ≡ step m r b → rem_from m s (drop (i + 1) bs) ≡ rem_from m r (drop i bs)
rem_from-next m r s i b bs e f = rw (e, rem_from-step m r b (drop (i + 1) bs), f) refl

pub rem_from-all : (m : Modulus) (r i : ℕ) (bs : List Bool) → length bs ≤ i → rem_from m r (drop i bs) ≡ r
unfolding rem_from
rem_from-all m r i bs le = rw (drop_all i bs le) refl
