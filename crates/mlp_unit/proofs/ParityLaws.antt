-- The sum of half bytes, over bits and over bytes.
use Rattle.std.proofs.Common.{◌≡◌, ℕ, suc, ◌+◌, ◌/◌, ◌%◌, ◌^◌, ◌<◌, Bool, List, [], ◌∷◌, ◌++◌, length, take, drop, refl, sym, ap, ◌∙◌, append_assoc, arith, inl, inr}
use Rattle.std.proofs.lemmas.Bool.{cases_lt}
use Rattle.std.proofs.lemmas.List.{get_or-drop, get_or-take, get_or_past, length-take, append-nil}
use Rattle.std.proofs.lemmas.List.Elements.{All-get_or}
use Rattle.std.specs.Prelude.{fold, bit_xor}
use lib.Bits.{xor_assoc, xor_zero_r}
use Rattle.mlp_bits.specs.Bits.{bits, bits_of}
use Rattle.mlp_bits.specs.Checks.{nibbles, nibble_parity_of}
use Rattle.mlp_bits.proofs.BitLists.{bits-split, bits_of-cons, number-bits}
use Rattle.mlp_bits.proofs.Parities.{nibbles-append}
use Rattle.mlp_layout.proofs.Fitting.{Small}
use Rattle.mlp_unit.specs.AccessUnit.{half_byte_sum}
use Rattle.mlp_unit.specs.Laws.{AreBytes}

pub small_bytes : (bytes : List ℕ) → AreBytes bytes → Small bytes
small_bytes bytes all i = elim (cases_lt i (length bytes)) [
  | inl lt ↦ All-get_or (λ (b : ℕ). b < 256) bytes i 0 lt all
  | inr le ↦ rw (get_or_past bytes i 0 le) (omega arith)
]

pub small-drop : (n : ℕ) (bytes : List ℕ) → Small bytes → Small (drop n bytes)
small-drop n bytes small i = rw get_or-drop (small (n + i))

pub small-take : (n : ℕ) (bytes : List ℕ) → Small bytes → Small (take n bytes)
small-take n bytes small i = elim (cases_lt i n) [
  | inl lt ↦ rw (get_or-take n bytes i 0 lt) (small i)
  | inr le ↦ rw (get_or_past (take n bytes) i 0 (omega (arith, length-take n bytes))) (omega arith)
]

pub four_bits : (x : ℕ) (rest : List Bool) → half_byte_sum (bits 4 x ++ rest) ≡ bit_xor (x % 16) (half_byte_sum rest)
unfolding bits half_byte_sum
four_bits x rest = ap (λ (n : ℕ). bit_xor n (half_byte_sum rest)) (number-bits 4 x)

pub one_byte : (b : ℕ) (rest : List Bool) → b < 256 → half_byte_sum (bits 8 b ++ rest) ≡ bit_xor (b / 16) (bit_xor (b % 16) (half_byte_sum rest))
one_byte b rest lt =
    let high : b / 2 ^ 4 % 16 ≡ b / 16 = omega arith in
    rw (bits-split 4 4 b, append_assoc (bits 4 (b / 2 ^ 4)) (bits 4 b) rest, four_bits (b / 2 ^ 4) (bits 4 b ++ rest), high, four_bits b rest) refl

half_bytes : (s : ℕ) (bytes : List ℕ) (rest : List Bool) → Small bytes → bit_xor s (half_byte_sum (bits_of bytes ++ rest)) ≡ bit_xor (fold bit_xor s (nibbles bytes)) (half_byte_sum rest)
unfolding bits_of
half_bytes s [] rest small = refl
half_bytes s (b ∷ bs) rest small =
    let later = half_bytes (bit_xor (bit_xor s (b / 16)) (b % 16)) bs rest (λ i. small (suc i)) in
    rw (
      bits_of-cons b bs,
      append_assoc (bits 8 b) (bits_of bs) rest,
      one_byte b (bits_of bs ++ rest) (small 0),
      ← xor_assoc s (b / 16)
          (bit_xor (b % 16) (half_byte_sum (bits_of bs ++ rest))),
      ← xor_assoc (bit_xor s (b / 16)) (b % 16) (half_byte_sum (bits_of bs ++ rest)),
    ) later

zero_left : (n : ℕ) → bit_xor 0 n ≡ n
zero_left n = grind arith

pub parity_is : (xs ys : List ℕ) → Small xs → Small ys → half_byte_sum (bits_of xs ++ bits_of ys) ≡ nibble_parity_of (xs ++ ys)
unfolding half_byte_sum
parity_is xs ys small little =
    let one = half_bytes 0 xs (bits_of ys) small in
    let two = half_bytes (fold bit_xor 0 (nibbles xs)) ys [] little in
    sym (zero_left (half_byte_sum (bits_of xs ++ bits_of ys))) ∙ one ∙ ap (λ (t : List Bool). bit_xor (fold bit_xor 0 (nibbles xs)) (half_byte_sum t)) (sym (append-nil (bits_of ys)))
    ∙ two ∙ xor_zero_r (fold bit_xor (fold bit_xor 0 (nibbles xs)) (nibbles ys)) ∙ sym (nibbles-append 0 xs ys)

pub bytes_parity : (bytes : List ℕ) → AreBytes bytes → half_byte_sum (bits_of bytes) ≡ nibble_parity_of bytes
unfolding bits_of
bytes_parity bytes all =
    ap half_byte_sum (sym (append-nil (bits_of bytes))) ∙ parity_is bytes [] (small_bytes bytes all) (λ i. omega arith) ∙ ap nibble_parity_of (append-nil bytes)
