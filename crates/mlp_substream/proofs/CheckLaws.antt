-- The two checks of a segment.
use Rattle.std.proofs.Common.{◌≡◌, ◌≢◌, true, false, eqb, leb, eq-eqb, Option, Some, None, ℕ, zero, suc, ◌+◌, ◌*◌, ◌-◌, ◌^◌, ◌<◌, ◌≤◌, Bool, List, [], ◌∷◌, ◌++◌, length, take, drop, get_or, refl, sym, ap, ◌∙◌, arith}
use Rattle.std.specs.Prelude.{fold, bit_xor}
use Rattle.std.proofs.lemmas.Bool.{ne_eqb, le-leb, lt-leb}
use Rattle.mlp_syntax.specs.declared.fault.Field.TheVariants as rule
use Rattle.mlp_syntax.specs.declared.fault.Broken.{Broken}
use Rattle.mlp_layout.specs.Reading.{broken, short}
use Rattle.std.specs.List.{AllByRecursion}
use Rattle.std.proofs.lemmas.Nat.{xor_lt}
use Rattle.std.proofs.lemmas.List.{take_at, take-append-drop, length-take, drop_more}
use Rattle.mlp_bits.specs.Bits.{bits, bits_of, number}
use Rattle.mlp_bits.specs.Checks.{modulus8, segment_parity_of, check8_of}
use Rattle.mlp_bits.proofs.ReadBack.{number-of}
use Rattle.mlp_bits.proofs.BitLists.{bits_of-cons, length-bits_of, length-bits}
use Rattle.mlp_bits.proofs.Words.{bits_of-append, bits_of-drop}
use Rattle.mlp_bits.proofs.Fields.{number-below}
use Rattle.mlp_bits.proofs.Remainders.{rem_from-smaller}
use Rattle.mlp_layout.specs.Tails.{byte_at, checked_part, parity_is, check_is}
use Rattle.mlp_substream.specs.Checks.{bytes_of, parity_of, check_of, checks_fault}

-- ---- both are bytes

bytes_small : (bits : List Bool) → AllByRecursion (λ b. b < 2 ^ 8) (bytes_of bits)
unfolding bytes_of
bytes_small (a ∷ b ∷ c ∷ d ∷ e ∷ f ∷ g ∷ h ∷ bits) = (number-below (a ∷ b ∷ c ∷ d ∷ e ∷ f ∷ g ∷ h ∷ []), bytes_small bits)
bytes_small bits = tt

xor_small : (r : ℕ) (bytes : List ℕ) → r < 2 ^ 8 → AllByRecursion (λ b. b < 2 ^ 8) bytes → fold bit_xor r bytes < 2 ^ 8
xor_small r [] h all = h
xor_small r (b ∷ bytes) h all = xor_small (bit_xor r b) bytes (xor_lt 8 r b h all.0) all.1

pub parity_small : (b : List Bool) → parity_of b < 2 ^ 8
parity_small b = xor_lt 8 _ 0xA9 (xor_small 0 (bytes_of b) (omega arith) (bytes_small b)) (omega arith)

pub check_small : (b : List Bool) → check_of b < 2 ^ 8
check_small b = rem_from-smaller modulus8 0 _ (omega arith) (omega arith)

-- ---- the bytes that bits are

abbrev pub AreBytes : List ℕ → Type 0
AreBytes bytes = (i : ℕ) → get_or bytes i 0 < 2 ^ 8

eight : (b : ℕ) (rest : List Bool) → bytes_of (bits 8 b ++ rest) ≡ number (bits 8 b) ∷ bytes_of rest
unfolding bytes_of bits
eight b rest = refl

pub bytes_of-bits : (bytes : List ℕ) → AreBytes bytes → bytes_of (bits_of bytes) ≡ bytes
unfolding bytes_of bits_of
bytes_of-bits [] h = refl
bytes_of-bits (b ∷ bytes) h = ap bytes_of (bits_of-cons b bytes) ∙ eight b (bits_of bytes) ∙ rw (number-of 8 b (h 0), bytes_of-bits bytes (λ i. h (suc i))) refl

bits_of-front : (bytes : List ℕ) (n : ℕ) → n ≤ length bytes → take (8 * n) (bits_of bytes) ≡ bits_of (take n bytes)
bits_of-front bytes n le =
    let whole : bits_of bytes ≡ bits_of (take n bytes) ++ bits_of (drop n bytes) = ap bits_of (sym (take-append-drop n bytes)) ∙ bits_of-append (take n bytes) (drop n bytes) in
    let len : length (bits_of (take n bytes)) ≡ 8 * n = omega (arith, length-bits_of (take n bytes), length-take n bytes) in
    rw whole (take_at (bits_of (take n bytes)) (bits_of (drop n bytes)) (8 * n) len)

front_small : (bytes : List ℕ) (n : ℕ) → AreBytes bytes → AreBytes (take n bytes)
front_small bytes zero h i = omega arith
front_small [] (suc n) h i = omega arith
front_small (b ∷ bytes) (suc n) h zero = h 0
front_small (b ∷ bytes) (suc n) h (suc i) = front_small bytes n (λ k. h (suc k)) i

byte_there : (bytes : List ℕ) (n : ℕ) → AreBytes bytes → n < length bytes → byte_at (8 * n) (bits_of bytes) ≡ get_or bytes n 0
byte_there bytes n h lt =
    let b = get_or bytes n 0 in
    let here : drop (8 * n) (bits_of bytes) ≡ bits 8 b ++ bits_of (drop (n + 1) bytes) = bits_of-drop bytes n ∙ ap bits_of (drop_more bytes n 0 lt) ∙ bits_of-cons b (drop (n + 1) bytes) in
    rw (here, take_at (bits 8 b) (bits_of (drop (n + 1) bytes)) 8 (length-bits 8 b)) (number-of 8 b (h n))

-- ---- bytes of which the last two are checks

module _ (bytes : List ℕ) (n : ℕ) (small : AreBytes bytes) (size : length bytes ≡ n + 2) where
  -- the bits before them
  pub text_bits : checked_part (bits_of bytes) ≡ bits_of (take n bytes)
  text_bits = let e : length (bits_of bytes) - 16 ≡ 8 * n = omega (arith, length-bits_of bytes) in rw e (bits_of-front bytes n (omega arith))

  pub text_bytes : bytes_of (checked_part (bits_of bytes)) ≡ take n bytes
  text_bytes = ap bytes_of text_bits ∙ bytes_of-bits (take n bytes) (front_small bytes n small)

  pub first_check : byte_at (length (bits_of bytes) - 16) (bits_of bytes) ≡ get_or bytes n 0
  first_check = let e : length (bits_of bytes) - 16 ≡ 8 * n = omega (arith, length-bits_of bytes) in rw e (byte_there bytes n small (omega arith))

  pub second_check : byte_at (length (bits_of bytes) - 8) (bits_of bytes) ≡ get_or bytes (n + 1) 0
  second_check = let e : length (bits_of bytes) - 8 ≡ 8 * (n + 1) = omega (arith, length-bits_of bytes) in rw e (byte_there bytes (n + 1) small (omega arith))

-- ---- the faults of checks

pub short_fault : (bytes : List ℕ) → length bytes < 4 → checks_fault (bits_of bytes) ≡ Some (short 0)
short_fault bytes lt = let few : leb 32 (length (bits_of bytes)) ≡ false = lt-leb _ _ (omega (arith, length-bits_of bytes)) in rw few refl

module _ (bytes : List ℕ) (n : ℕ) (small : AreBytes bytes) (size : length bytes ≡ n + 2) (some : 2 ≤ n) where
  long : leb 32 (length (bits_of bytes)) ≡ true
  long = le-leb _ _ (omega (arith, length-bits_of bytes))

  parity_test : (b : Bool) → eqb (get_or bytes n 0) (segment_parity_of (take n bytes)) ≡ b → parity_is parity_of (bits_of bytes) ≡ b
  parity_test b e = rw (first_check bytes n small size, text_bytes bytes n small size) e

  check_test : (b : Bool) → eqb (get_or bytes (n + 1) 0) (check8_of (take n bytes)) ≡ b → check_is check_of (bits_of bytes) ≡ b
  check_test b e = rw (second_check bytes n small size, text_bytes bytes n small size) e

  abbrev fault_of : Broken → Option Broken
  fault_of e = Some e

  pub parity_fault : get_or bytes n 0 ≢ segment_parity_of (take n bytes) → checks_fault (bits_of bytes) ≡ Some (broken rule.SegmentParity (n * 8))
  parity_fault other =
      let p = parity_test false (ne_eqb _ _ other) in
      let at : length (bits_of bytes) - 16 ≡ n * 8 = omega (arith, length-bits_of bytes) in
      rw (long, p) (ap (λ (k : ℕ). fault_of (broken rule.SegmentParity k)) at)

  pub check_fault : get_or bytes n 0 ≡ segment_parity_of (take n bytes) → get_or bytes (n + 1) 0 ≢ check8_of (take n bytes) → checks_fault (bits_of bytes) ≡ Some (broken rule.SegmentCheck (n * 8 + 8))
  check_fault same other =
      let p = parity_test true (eq-eqb _ _ same) in
      let c = check_test false (ne_eqb _ _ other) in
      let at : length (bits_of bytes) - 8 ≡ n * 8 + 8 = omega (arith, length-bits_of bytes) in
      rw (long, p, c) (ap (λ (k : ℕ). fault_of (broken rule.SegmentCheck k)) at)

  pub no_fault : get_or bytes n 0 ≡ segment_parity_of (take n bytes) → get_or bytes (n + 1) 0 ≡ check8_of (take n bytes) → checks_fault (bits_of bytes) ≡ None
  no_fault same other =
      let p = parity_test true (eq-eqb _ _ same) in
      let c = check_test true (eq-eqb _ _ other) in
      rw (long, p, c) refl
