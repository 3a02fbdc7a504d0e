-- Sums of whole words, cut to 24 bits behind the last.
use Rattle.std.proofs.Common.{◌≡◌, ℕ, zero, suc, ◌+◌, ◌-◌, ◌*◌, ◌<◌, ◌≤◌, ◌%◌, ◌^◌, List, [], ◌∷◌, drop, get_or, set, length, sym, ap, ◌∙◌, arith, bit_and, bit_xor}
use lib.Bits.{xor_assoc}
use Rattle.std.proofs.Math.Nat.{mul-le-mul}
use Rattle.std.proofs.Math.Pow.{pow_mono}
use Rattle.std.proofs.lemmas.List.{drop_more}
use Rattle.std.proofs.lemmas.Nat.{pow_pos, and_mask, xor_comm, xor_mod, xor_block}
use Rattle.mlp_output.specs.Frames.{check_of_sums}

-- the 24 bits of a word, times 2^c
abbrev pub part : ℕ → ℕ → ℕ
part c word = word % 2 ^ 24 * 2 ^ c

xor_part : (a b c : ℕ) → part c (bit_xor a b) ≡ bit_xor (part c a) (part c b)
xor_part a b c =
    let e : bit_xor (part c a + 0) (part c b + 0) ≡ bit_xor (a % 2 ^ 24) (b % 2 ^ 24) * 2 ^ c + 0 = xor_block c (a % 2 ^ 24) (b % 2 ^ 24) 0 0 (pow_pos c) (pow_pos c) in
    let f : part c a + 0 ≡ part c a = omega arith in
    let g : part c b + 0 ≡ part c b = omega arith in
    let h : bit_xor (a % 2 ^ 24) (b % 2 ^ 24) * 2 ^ c + 0 ≡ bit_xor (a % 2 ^ 24) (b % 2 ^ 24) * 2 ^ c = omega arith in
    ap (λ (n : ℕ). n * 2 ^ c) (xor_mod a b 24) ∙ sym h ∙ sym e ∙ ap (λ (n : ℕ). bit_xor n (part c b + 0)) f ∙ ap (bit_xor (part c a)) g

-- one word more in the sum at i
sum_more : (c i : ℕ) (sums : List ℕ) (word : ℕ) → i < length sums → check_of_sums c (set sums i (bit_xor (get_or sums i 0) word)) ≡ bit_xor (check_of_sums c sums) (part (c + i) word)
sum_more c i [] word lt = absurd (omega arith)
sum_more c zero (s ∷ sums) word lt =
    let p : ℕ = part c s in
    let rest : ℕ = check_of_sums (c + 1) sums in
    let e : c ≡ c + 0 = omega arith in
    ap (λ (n : ℕ). bit_xor n rest) (xor_part s word c)
    ∙ xor_assoc p (part c word) rest
    ∙ ap (bit_xor p) (xor_comm (part c word) rest)
    ∙ sym (xor_assoc p rest (part c word))
    ∙ ap (λ (k : ℕ). bit_xor (bit_xor p rest) (part k word)) e
sum_more c (suc i) (s ∷ sums) word lt =
    let p : ℕ = part c s in
    let e : c + 1 + i ≡ c + suc i = omega arith in
    ap (bit_xor p) (sum_more (c + 1) i sums word (omega arith))
    ∙ sym (xor_assoc p (check_of_sums (c + 1) sums) (part (c + 1 + i) word))
    ∙ ap (λ (k : ℕ). bit_xor (bit_xor p (check_of_sums (c + 1) sums)) (part k word)) e

pub summed_at : (i : ℕ) (sums : List ℕ) (word : ℕ) → i < length sums → check_of_sums 0 (set sums i (bit_xor (get_or sums i 0) word)) ≡ bit_xor (check_of_sums 0 sums) (part i word)
summed_at i sums word lt =
    let e : 0 + i ≡ i = omega arith in
    sum_more 0 i sums word lt ∙ ap (λ (k : ℕ). bit_xor (check_of_sums 0 sums) (part k word)) e

-- 24 bits, times 2 to at most 7, have 32
pub no_bits_lost : (n i : ℕ) → i ≤ 7 → bit_and n 16777215 * 2 ^ i % 4294967296 ≡ part i n
no_bits_lost n i le =
    let bits : bit_and n 16777215 ≡ n % 2 ^ 24 = and_mask n 24 in
    let p : 2 ^ i ≤ 2 ^ 7 = pow_mono le in
    let low : n % 2 ^ 24 ≤ 2 ^ 24 - 1 = omega arith in
    let most : part i n ≤ (2 ^ 24 - 1) * 2 ^ 7 = mul-le-mul low p in
    ap (λ (m : ℕ). m * 2 ^ i % 4294967296) bits ∙ omega arith

-- one sum more from the last to the first
pub check_more : (sums : List ℕ) (i c check bits : ℕ) → c ≡ i + 1 → i < length sums → check ≡ check_of_sums c (drop c sums) → bits ≡ part i (get_or sums i 0) → bit_xor check bits ≡ check_of_sums i (drop i sums)
check_more sums i c check bits e lt h same =
    xor_comm check bits
    ∙ ap (bit_xor bits) (h ∙ ap (λ (k : ℕ). check_of_sums k (drop k sums)) e)
    ∙ ap (λ (n : ℕ). bit_xor n (check_of_sums (i + 1) (drop (i + 1) sums))) same
    ∙ sym (ap (check_of_sums i) (drop_more sums i 0 lt))
