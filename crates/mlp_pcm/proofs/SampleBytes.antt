-- A sample and its bytes.
use Rattle.std.proofs.Common.{◌≡◌, ℕ, ◌+◌, ◌*◌, ◌^◌, ◌<◌, List, drop, ℤ, pos, negsuc, true, arith, ◌∙◌, ap, w16, w64}
use Rattle.std.specs.Prelude.{◌*ℤ◌, ◌+ℤ◌, slice_index}
use Rattle.std.specs.Int.{cast_signed}
use Rattle.std.proofs.lemmas.Int.{ints}
use Rattle.std.proofs.lemmas.List.{get_or-drop}
use Rattle.std.proofs.lemmas.Bool.Decides.{nat_tests}
use Rattle.byteorder.specs.Endian.{little_number, low_bytes, twos_complement}
use Rattle.mlp_pcm.specs.Samples.{is_clear, Is24}

low_and_upper : (x y : ℕ) → x < 256 → y < 2 ^ 16 → cast_signed w16 y *ℤ pos 256 +ℤ pos x ≡ twos_complement 3 (x + 256 * y)
low_and_upper x y h k = grind (arith, ints, nat_tests)

-- the low byte, and the others as a signed number
pub by_low_byte : (bytes : List ℕ) → slice_index bytes 0 < 256 → little_number 2 (drop 1 bytes) < 2 ^ 16
    → cast_signed w16 (little_number 2 (drop 1 bytes)) *ℤ pos 256 +ℤ pos (slice_index bytes 0) ≡ twos_complement 3 (little_number 3 bytes)
by_low_byte bytes h k = low_and_upper (slice_index bytes 0) (little_number 2 (drop 1 bytes)) h k ∙ ap (λ n. twos_complement 3 (slice_index bytes 0 + 256 * n)) (omega (arith, get_or-drop 1 bytes 0 0, get_or-drop 1 bytes 1 0))

-- a number of 24 bits is that of its two's complement
pub low_back : (n : ℕ) → n < 2 ^ 24 → low_bytes w64 3 (twos_complement 3 n) ≡ n
low_back n h = grind (arith, ints, nat_tests)

pub complement_back : (s : ℤ) → Is24 s → twos_complement 3 (low_bytes w64 3 s) ≡ s
complement_back (pos n) h = grind (arith, ints, nat_tests, h.high, h.low)
complement_back (negsuc n) h = grind (arith, ints, nat_tests, h.high, h.low)

pub two_bytes : (m : ℕ) → m < 2 ^ 16 → twos_complement 2 m *ℤ pos 256 ≡ twos_complement 3 (256 * m)
two_bytes m h = grind (arith, ints, nat_tests)

pub is_24 : (n : ℕ) → n < 2 ^ 24 → Is24 (twos_complement 3 n)
is_24 n h = record { low = grind (arith, ints, nat_tests); high = grind (arith, ints, nat_tests) }

pub clear_24 : (s : ℤ) → is_clear 24 s ≡ true
unfolding is_clear
clear_24 s = grind (arith, nat_tests)

pub clear_16 : (m : ℕ) → m < 2 ^ 16 → is_clear 16 (twos_complement 3 (256 * m)) ≡ true
unfolding is_clear
clear_16 m h = let e = low_back (256 * m) (omega arith) in grind (arith, nat_tests, e)
