-- The noise of a substream: two values a frame, from a seed of 23 bits.
use Rattle.std.specs.Prelude.{◌≡◌, ℕ, zero, suc, ◌<◌, ◌+◌, ◌*◌, ◌/◌, ◌%◌, ◌^◌, List, [], ◌∷◌, ◌++◌, length, take, drop, slice_index_or, ℤ, pos, ◌*ℤ◌, bit_xor}
use Rattle.std.specs.Int.{cast_signed, w8}

-- the two values before their shift: the bits 15 to 22 and 7 to 14 of the seed, each as a signed byte
abbrev pub noise_of : ℕ → ℤ × ℤ
noise_of seed = (cast_signed w8 (seed / 2 ^ 15 % 256), cast_signed w8 (seed / 2 ^ 7 % 256))

-- .. each times 2^shift
abbrev pub noise_values : ℕ → ℕ → List ℤ
noise_values shift seed = ((noise_of seed).0 *ℤ pos (2 ^ shift)) ∷ ((noise_of seed).1 *ℤ pos (2 ^ shift)) ∷ []

-- the seed of the next frame: with h the seed without its low 7 bits, these bits times 2^16, h and 2^5 h,
-- added without carry
abbrev pub next_seed : ℕ → ℕ
next_seed seed = bit_xor (bit_xor (seed % 2 ^ 7 * 2 ^ 16) (seed / 2 ^ 7)) (seed / 2 ^ 7 * 2 ^ 5) % 2 ^ 23

-- the seed n frames on
abbrev pub seed_at : ℕ → ℕ → ℕ
seed_at seed zero = seed
seed_at seed (suc n) = next_seed (seed_at seed n)

-- a frame with its noise behind so many channels, in place of what stood there
abbrev pub noisy : ℕ → ℕ → ℕ → List ℤ → List ℤ
noisy shift channels seed frame = take channels frame ++ noise_values shift seed ++ drop (channels + 2) frame

-- frames in order, the first with this seed
abbrev pub noisy_each : ℕ → ℕ → ℕ → List (List ℤ) → List (List ℤ)
noisy_each shift channels seed [] = []
noisy_each shift channels seed (frame ∷ frames) =
    noisy shift channels seed frame ∷ noisy_each shift channels (next_seed seed) frames

-- each frame has the noise of the seed as many frames on as stand before it
abbrev pub AreNoisy : ℕ → ℕ → ℕ → List (List ℤ) → Type 0
AreNoisy shift channels seed frames =
    (i : ℕ) → i < length frames →
    slice_index_or (noisy_each shift channels seed frames) i []
    ≡ noisy shift channels (seed_at seed i) (slice_index_or frames i [])
