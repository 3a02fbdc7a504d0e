-- What the first bytes of an input say, read as the header of a WAVE file.
use Rattle.std.specs.Prelude.{◌≡◌, ◌↔◌, ◌⊎◌, ℕ, zero, suc, ◌+◌, ◌≤◌, ◌<◌, ◌&&◌, min, nat_lt, nat_eq, Bool, List, [], ◌∷◌, ◌++◌, length, take, drop, codes, Option, None, Some, Ok, Err, is_none, if◌then◌else◌}
use Rattle.std.specs.declared.result.Result.{Result}
use Rattle.std.specs.List.{starts_with}
use Rattle.std.specs.Io.KnownBytes.{Consumes, IsAtEnd}
use Rattle.mlp_io.specs.Limit.{limit}
use Rattle.mlp_syntax.specs.declared.refusal.WaveField.{WaveField}
use Rattle.mlp_syntax.specs.declared.refusal.WaveField.TheVariants.{Riff, Chunk, FmtMissing}
use Rattle.mlp_pcm.specs.declared.wave_format.Format.{Format}
use Rattle.mlp_pcm.specs.declared.wave_bytes.WaveRefusal.{WaveRefusal}
use Rattle.mlp_pcm.specs.declared.wave_bytes.WaveRefusal.TheVariants.{Read, Header, TooLong}
use Rattle.mlp_pcm.specs.declared.wave_chunks.Turn.{Turn}
use Rattle.mlp_pcm.specs.declared.wave_chunks.Turn.TheVariants.{Data, Passed}
use Rattle.mlp_pcm.specs.declared.wave_reader.WaveInfo.{WaveInfo}
use Rattle.mlp_pcm.specs.WaveHeader.{padded}
use Rattle.mlp_pcm.specs.WaveFormat.{number_at, judged}

pub data Answer : Type 0 where
  -- a header, with the size that its data chunk states, and the bytes behind
  begins : Format → ℕ → List ℕ → Answer
  -- a field that is wrong
  refused : WaveField → Answer
  -- neither so far; where the input ends here, the field that is then wrong
  unfinished : WaveField → Answer
  -- more chunks than were looked at
  unknown : Answer

-- the chunks from here on
unfoldable pub after_format : (Option Format → List ℕ → Answer)
    → Result Format WaveField → List ℕ → Answer
after_format go (Err field) rest = refused field
after_format go (Ok format) rest = go (Some format) rest

unfoldable pub at_data : Option Format → ℕ → List ℕ → Answer
at_data None size rest = refused FmtMissing
at_data (Some format) size rest = begins format size rest

-- a chunk by its head, and the bytes behind its head; `go` says what comes after it
unfoldable pub chunk : (Option Format → List ℕ → Answer) → Option Format → List ℕ → List ℕ → Answer
chunk go seen head rest =
    if starts_with nat_eq head (codes "data") then at_data seen (number_at 4 4 head) rest
    else (if nat_lt (length rest) (padded (number_at 4 4 head)) then unfinished Chunk
    else (if starts_with nat_eq head (codes "fmt ") && is_none seen
    then after_format go (judged (number_at 4 4 head) (take (min (padded (number_at 4 4 head)) 40) rest))
    (drop (padded (number_at 4 4 head)) rest)
    else go seen (drop (padded (number_at 4 4 head)) rest)))

-- at most n chunks, where a format was seen before or not
unfoldable pub chunks : ℕ → Option Format → List ℕ → Answer
chunks zero seen bytes = unknown
chunks (suc n) seen bytes = if nat_lt (length bytes) 8 then unfinished Chunk
    else chunk (chunks n) seen (take 8 bytes) (drop 8 bytes)

-- the first 12 bytes
abbrev pub is_riff : List ℕ → Bool
is_riff bytes = starts_with nat_eq bytes (codes "RIFF") && starts_with nat_eq (drop 8 bytes) (codes "WAVE")

-- the whole header, where at most n chunks are looked at
unfoldable pub header : ℕ → List ℕ → Answer
header n bytes =
    if nat_lt (length bytes) 12 then unfinished Riff
    else (if is_riff (take 12 bytes) then chunks n None (drop 12 bytes)
    else refused Riff)

-- what the bytes say, however many chunks there are
abbrev pub Says : List ℕ → Answer → Type 0
Says bytes answer = (n : ℕ) × (header n bytes ≡ answer)

-- bytes are unfinished at RIFF exactly where they are fewer than 12, and else at a chunk
pub record UnfinishedWhereCut (bytes : List ℕ) : Type 0 where
  pub riff : Says bytes (unfinished Riff) ↔ (length bytes < 12)
  pub chunk : (field : WaveField) → Says bytes (unfinished field) → 12 ≤ length bytes → field ≡ Chunk

-- What a chunk was: the bytes taken for it, and what all bytes say by those behind them.
-- `meaning n` looks at n chunks more.
abbrev pub IsTurn : Option (List ℕ) → Option (List ℕ)
    → ℕ → (ℕ → List ℕ → Answer) → Turn → Type 0
IsTurn before after taken meaning (Data format size at) =
    (xs : List ℕ) × Consumes before after xs × (at ≡ taken + length xs) × (at ≤ limit)
    × ((n : ℕ) (rest : List ℕ) → meaning n (xs ++ rest) ≡ begins format size rest)
IsTurn before after taken meaning (Passed format at) =
    (xs : List ℕ) × Consumes before after xs × (at ≡ taken + length xs) × (at ≤ limit)
    × ((n : ℕ) (rest : List ℕ) → meaning n (xs ++ rest) ≡ chunks n format rest)

-- Why there was none: a failed read inside, a wrong field, the end of the input inside, or the limit with one byte more
-- inside. The bytes taken were consumed.
abbrev pub Ends : Option (List ℕ) → Option (List ℕ) → ℕ
    → (List ℕ → Answer → Type 0) → WaveRefusal → Type 0
Ends before after taken Meaning Read =
    (xs : List ℕ) × Consumes before after xs × (taken + length xs ≤ limit)
    × (field : WaveField) × Meaning xs (unfinished field)
Ends before after taken Meaning (Header field) =
    (xs : List ℕ) × Consumes before after xs × (taken + length xs ≤ limit)
    × (Meaning xs (refused field) ⊎ (Meaning xs (unfinished field) × IsAtEnd after))
Ends before after taken Meaning TooLong =
    (xs : List ℕ) × (b : ℕ) × Consumes before after (xs ++ b ∷ [])
    × (taken + length xs ≡ limit) × (field : WaveField) × Meaning xs (unfinished field)

-- what the chunks from here on say
abbrev pub ChunksSay : Option Format → List ℕ → Answer → Type 0
ChunksSay seen xs answer = (n : ℕ) → chunks (suc n) seen xs ≡ answer

-- .. and those behind a head
abbrev pub ContentSays : Option Format → List ℕ → List ℕ → Answer → Type 0
ContentSays seen head xs answer = (n : ℕ) → chunk (chunks n) seen head xs ≡ answer

-- the bytes taken after a chunk
abbrev pub place_of : Turn → ℕ
place_of (Data format size at) = at
place_of (Passed format at) = at

-- what the first 12 bytes and all behind them say
abbrev pub HeaderSays : List ℕ → Answer → Type 0
HeaderSays xs answer = (n : ℕ) → header n xs ≡ answer

-- the first 12 bytes were taken, and are those of a WAVE file
abbrev pub TakesRiff : Option (List ℕ) → Option (List ℕ) → Type 0
TakesRiff before after =
    (xs : List ℕ) × Consumes before after xs × (length xs ≡ 12)
    × ((n : ℕ) (rest : List ℕ) → header n (xs ++ rest) ≡ chunks n None rest)

-- what the chunks behind them say
abbrev pub AllChunksSay : List ℕ → Answer → Type 0
AllChunksSay xs answer = (k : ℕ) × (chunks k None xs ≡ answer)

abbrev pub format_of : WaveInfo → Format
format_of info = record { channels = info.channels; rate = info.rate; depth = info.depth; width = info.width }

-- the chunks up to the data were taken
abbrev pub Chunked : Option (List ℕ) → Option (List ℕ) → WaveInfo → Type 0
Chunked before after info = (xs : List ℕ) × Consumes before after xs × (info.taken ≡ 12 + length xs)
    × (info.taken ≤ limit) × AllChunksSay xs (begins (format_of info) info.size [])

-- the whole header was taken, and nothing behind it
abbrev pub Began : Option (List ℕ) → Option (List ℕ) → WaveInfo → Type 0
Began before after info = (xs : List ℕ) × Consumes before after xs × (info.taken ≡ length xs)
    × (info.taken ≤ limit) × Says xs (begins (format_of info) info.size [])
