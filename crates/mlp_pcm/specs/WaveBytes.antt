-- How the taking of bytes ends.
use Rattle.std.specs.Prelude.{◌≡◌, ℕ, ◌+◌, ◌≤◌, ◌<◌, Bool, true, false, List, [], ◌∷◌, ◌++◌, length, Option, Err, Ok}
use Rattle.std.specs.declared.result.Result.{Result}
use Rattle.std.specs.Io.KnownBytes.{Consumes, IsAtEnd}
use Rattle.mlp_io.specs.Limit.{limit}
use Rattle.mlp_syntax.specs.declared.refusal.WaveField.{WaveField}
use Rattle.mlp_pcm.specs.declared.wave_bytes.WaveRefusal.{WaveRefusal}
use Rattle.mlp_pcm.specs.declared.wave_bytes.WaveRefusal.TheVariants.{Read, Header, TooLong}

-- whether the source failed
abbrev pub is_read_fault : {T : Type 0} → Result T WaveRefusal → Bool
is_read_fault (Ok x) = false
is_read_fault (Err Read) = true
is_read_fault (Err (Header field)) = false
is_read_fault (Err TooLong) = false

-- These bytes were taken. With those before they are n, within the limit.
abbrev pub Takes : Option (List ℕ) → Option (List ℕ) → ℕ → List ℕ → ℕ → Type 0
Takes before after taken xs n = (n ≡ taken + length xs) × (n ≤ limit) × Consumes before after xs

-- .. so many bytes
abbrev pub TakesCount : Option (List ℕ) → Option (List ℕ) → ℕ → ℕ → ℕ → Type 0
TakesCount before after taken count n = (n ≡ taken + count) × (n ≤ limit)
    × (xs : List ℕ) × Consumes before after xs × (length xs ≡ count)

-- .. so many bytes, of which these are the first
abbrev pub TakesBehind : Option (List ℕ) → Option (List ℕ) → ℕ → List ℕ → ℕ → ℕ → Type 0
TakesBehind before after taken first count n =
    (n ≡ taken + count) × (n ≤ limit) × (xs : List ℕ)
    × Consumes before after (first ++ xs) × (length first + length xs ≡ count)

-- Why not so many bytes came behind those taken: the source failed, the input ended,
-- or the limit came and one byte more.
abbrev pub Stops : Option (List ℕ) → Option (List ℕ) → ℕ → ℕ → WaveField → WaveRefusal → Type 0
Stops before after taken count short Read =
    (xs : List ℕ) × Consumes before after xs × (length xs < count) × (taken + length xs ≤ limit)
Stops before after taken count short (Header field) =
    (field ≡ short) × ((xs : List ℕ) × Consumes before after xs
    × IsAtEnd after × (length xs < count) × (taken + length xs ≤ limit))
Stops before after taken count short TooLong =
    (xs : List ℕ) × (b : ℕ) × Consumes before after (xs ++ b ∷ [])
    × (length xs < count) × (taken + length xs ≡ limit)

abbrev pub the_refusal : WaveRefusal → Result ℕ WaveRefusal
the_refusal e = Err e
