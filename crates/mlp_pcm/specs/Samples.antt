-- Raw PCM: frames one after the other, channels in order, samples little-endian and signed.
use Rattle.std.specs.Prelude.{◌≡◌, ◌↔◌, ℕ, zero, suc, ◌-◌, ◌*◌, ◌/◌, ◌%◌, ◌^◌, ◌<◌, ◌==◌, ℤ, pos, neg_ℤ, ◌*ℤ◌, ◌≤ℤ◌, ◌<ℤ◌, ◌⊎◌, ◌≤◌, All, Bool, false, List, [], ◌∷◌, ◌++◌, length, take, drop, replicate, slice_index_or, if◌then◌else◌, Option, None, Some, option_map, Ok, Err, IsTrue}
use Rattle.std.specs.declared.result.Result.{Result}
use Rattle.std.specs.Int.{w64, cast_unsigned}
use Rattle.std.specs.List.{list_all, flat_map}
use Rattle.byteorder.specs.Endian.{little_number, little_bytes, twos_complement, low_bytes}

-- The sample of 24 bits in the first bytes. One of two bytes counts 256 times.
unfoldable pub sample_in : ℕ → List ℕ → ℤ
sample_in width bytes = if width == 2 then twos_complement 2 (little_number 2 bytes) *ℤ pos 256
    else twos_complement 3 (little_number 3 bytes)

-- n values, each of the next bytes, of which it takes so many
unfoldable pub pieces : {A : Type 0} → (List ℕ → A) → ℕ → ℕ → List ℕ → List A
pieces value size zero bytes = []
pieces value size (suc n) bytes = value bytes ∷ pieces value size n (drop size bytes)

-- the samples of a frame's channels, and 0 in the other places
abbrev pub row_in : ℕ → ℕ → List ℕ → List ℤ
row_in width channels bytes = pieces (sample_in width) width channels bytes ++ replicate (8 - channels) (pos 0)

-- the rows of all frames
abbrev pub rows_in : ℕ → ℕ → List ℕ → List (List ℤ)
rows_in width channels bytes =
    pieces (row_in width channels) (channels * width) (length bytes / (channels * width)) bytes

-- the low bits that a sample of this depth doesn't have are 0
unfoldable pub is_clear : ℕ → ℤ → Bool
is_clear depth sample = cast_unsigned w64 sample % 2 ^ (24 - depth) == 0

-- .. in each sample
abbrev pub are_clear : ℕ → List ℤ → Bool
are_clear depth samples = list_all (is_clear depth) samples

-- row i is the first at which the test fails
pub record IsFirstFailing (test : List ℤ → Bool) (rows : List (List ℤ)) (i : ℕ) : Type 0 where
  pub within : i < length rows
  pub before : IsTrue (list_all test (take i rows))
  pub here : test (slice_index_or rows i []) ≡ false

-- the number of the first row at which the test fails
unfoldable pub first_failing : (List ℤ → Bool) → List (List ℤ) → Option ℕ
first_failing test [] = None
first_failing test (row ∷ rows) = if test row then option_map suc (first_failing test rows) else Some 0

-- that is the first
pub record FirstFailingIsFirst (test : List ℤ → Bool) (rows : List (List ℤ)) : Type 0 where
  pub none : (first_failing test rows ≡ None) ↔ IsTrue (list_all test rows)
  pub some : (i : ℕ) → (first_failing test rows ≡ Some i) ↔ IsFirstFailing test rows i

-- the rows of all frames, whose low bits are 0
abbrev pub AreUnpacked : ℕ → ℕ → ℕ → List ℕ → List (List ℤ) → Type 0
AreUnpacked width depth channels bytes rows = (rows ≡ rows_in width channels bytes)
    × IsTrue (list_all (are_clear depth) (rows_in width channels bytes))

-- the rows before row i, the first that has a sample whose low bits aren't 0
abbrev pub AreUnpackedTo : ℕ → ℕ → ℕ → List ℕ → List (List ℤ) → ℕ → Type 0
AreUnpackedTo width depth channels bytes rows i =
    IsFirstFailing (are_clear depth) (rows_in width channels bytes) i
    × (rows ≡ take i (rows_in width channels bytes))

-- the three bytes of a sample, and of a sample of 16 bits the upper two
unfoldable pub sample_bytes : ℕ → ℤ → List ℕ
sample_bytes bits sample = if bits == 16 then drop 1 (little_bytes 3 (low_bytes w64 3 sample))
    else little_bytes 3 (low_bytes w64 3 sample)

abbrev pub row_bytes : ℕ → ℕ → List ℤ → List ℕ
row_bytes bits channels row = flat_map (sample_bytes bits) (take channels row)

-- the bytes of all frames
abbrev pub packed : ℕ → ℕ → List (List ℤ) → List ℕ
packed bits channels rows = flat_map (row_bytes bits channels) rows

-- the widths and depths of samples
abbrev pub IsForm : ℕ → ℕ → Type 0
IsForm width depth = ((width ≡ 2) × (depth ≡ 16)) ⊎ ((width ≡ 3) × ((depth ≡ 20) ⊎ (depth ≡ 24)))

-- bytes of whole frames
pub record AreFrames (width channels : ℕ) (bytes : List ℕ) : Type 0 where
  pub small : All (λ (b : ℕ). b < 256) bytes
  pub whole : length bytes % (channels * width) ≡ 0

-- 24 signed bits
pub record Is24 (v : ℤ) : Type 0 where
  pub low : neg_ℤ (pos (2 ^ 23)) ≤ℤ v
  pub high : v <ℤ pos (2 ^ 23)

-- a row that has samples of so many channels and this depth, and 0 in the other places
pub record IsRow (depth channels : ℕ) (row : List ℤ) : Type 0 where
  pub eight : length row ≡ 8
  pub samples : All Is24 row
  pub clear : IsTrue (are_clear depth row)
  pub rest : drop channels row ≡ replicate (8 - channels) (pos 0)

-- what `pack` asks of a row
abbrev pub is_packable : ℕ → ℕ → List ℤ → Bool
is_packable bits channels row = are_clear bits (take channels row)

-- the number of the first frame that has a sample whose low bits aren't 0
abbrev pub first_low : ℕ → ℕ → List (List ℤ) → Option ℕ
first_low bits channels rows = first_failing (is_packable bits channels) rows

-- The frames were packed, or have a first one that can't be. Nothing was then put out.
abbrev pub Packs : ℕ → ℕ → List (List ℤ) → List ℕ → Result Unit ℕ → Type 0
Packs bits channels rows out (Ok x) = (first_low bits channels rows ≡ None) × (out ≡ packed bits channels rows)
Packs bits channels rows out (Err i) = (first_low bits channels rows ≡ Some i) × (out ≡ [])

-- packed are the bytes from which rows were unpacked, and `pack` accepts these rows
abbrev pub PackedIsUnpacked : Type 0
PackedIsUnpacked = (width depth channels : ℕ) (bytes : List ℕ) → IsForm width depth
    → 1 ≤ channels → channels ≤ 8 → AreFrames width channels bytes
    → (packed (8 * width) channels (rows_in width channels bytes) ≡ bytes)
    × IsTrue (list_all (is_packable (8 * width) channels) (rows_in width channels bytes))

-- rows that `unpack` accepts are rows of that depth
abbrev pub UnpackedAreRows : Type 0
UnpackedAreRows = (width depth channels : ℕ) (bytes : List ℕ) → IsForm width depth
    → 1 ≤ channels → channels ≤ 8 → AreFrames width channels bytes
    → IsTrue (list_all (are_clear depth) (rows_in width channels bytes))
    → All (IsRow depth channels) (rows_in width channels bytes)

-- unpacked are the rows that were packed, whose bytes are whole frames, and both accept them
abbrev pub UnpackedIsPacked : Type 0
UnpackedIsPacked = (width depth channels : ℕ) (rows : List (List ℤ))
    → IsForm width depth → 1 ≤ channels → channels ≤ 8 → All (IsRow depth channels) rows
    → (rows_in width channels (packed (8 * width) channels rows) ≡ rows)
    × AreFrames width channels (packed (8 * width) channels rows)
    × IsTrue (list_all (is_packable (8 * width) channels) rows) × IsTrue (list_all (are_clear depth) rows)
