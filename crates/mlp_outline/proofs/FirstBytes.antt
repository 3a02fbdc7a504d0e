-- The first bytes of a unit.
use Rattle.std.proofs.Common.{◌≡◌, ℕ, ◌≤◌, false, List, ◌++◌, length, take, drop, refl, arith}
use Rattle.std.proofs.lemmas.List.{length-take, length-drop, drop-take, take-take, take-append-le}
use Rattle.std.specs.Prelude.{replicate}
use Rattle.mlp_bits.specs.Bits.{bits_of}
use Rattle.mlp_bits.specs.Cursor.{peeked}
use Rattle.mlp_bits.proofs.BitLists.{length-bits_of}
use Rattle.mlp_major.proofs.SyncReading.{bits_of-take}
use Rattle.mlp_outline.specs.Next.{words_of}

-- bits among the first four bytes
first_bits : (bytes : List ℕ) → 4 ≤ length bytes → take 12 (drop 4 (bits_of (take 4 bytes))) ≡ take 12 (drop 4 (bits_of bytes))
first_bits bytes le =
    let front : take 32 (bits_of bytes) ≡ bits_of (take 4 bytes) = bits_of-take 4 bytes le in
    let cut : drop 4 (take 32 (bits_of bytes)) ≡ take 28 (drop 4 (bits_of bytes)) = drop-take 4 28 (bits_of bytes) in
    rw (← front, cut) (take-take 12 28 (drop 4 (bits_of bytes)) (omega arith))

pub four_bytes : (bytes : List ℕ) → 4 ≤ length bytes → length (bits_of (take 4 bytes)) ≡ 32
four_bytes bytes le = omega (arith, length-bits_of (take 4 bytes), length-take 4 bytes)

pub peeked_words : (bytes : List ℕ) (place : ℕ) → 4 ≤ length bytes → place ≡ 4 → peeked 12 (record { all = bits_of (take 4 bytes); place = place }) ≡ words_of bytes
unfolding peeked
peeked_words bytes place le is =
    let enough : 12 ≤ length (drop 4 (bits_of (take 4 bytes))) = omega (arith, four_bytes bytes le, length-drop 4 (bits_of (take 4 bytes))) in
    let none : take 12 (drop 4 (bits_of (take 4 bytes)) ++ replicate 12 false) ≡ take 12 (drop 4 (bits_of (take 4 bytes))) = take-append-le 12 (drop 4 (bits_of (take 4 bytes))) (replicate 12 false) enough in
    rw (is, none, first_bits bytes le) refl
