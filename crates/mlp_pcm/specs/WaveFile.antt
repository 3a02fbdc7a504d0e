-- What a WAVE file is, up to its data.
use Rattle.std.specs.Prelude.{◌≡◌, ◌↔◌, ◌≤◌, ◌<◌, ◌*◌, ◌/◌, ◌^◌, ◌⊎◌, ℕ, Bool, false, nat_eq, List, ◌++◌, length, take, codes, All, Ok, Err, IsTrue}
use Rattle.std.specs.List.{starts_with, flat_map}
use Rattle.mlp_syntax.specs.declared.refusal.WaveField.{WaveField}
use Rattle.mlp_syntax.specs.declared.refusal.WaveField.TheVariants.{Riff, FmtMissing}
use Rattle.mlp_pcm.specs.declared.wave_format.Format.{Format}
use Rattle.mlp_pcm.specs.WaveHeader.{padded, align_of, wave_header}
use Rattle.mlp_pcm.specs.WaveFormat.{number_at, judged}
use Rattle.mlp_pcm.specs.WaveScan.{Answer, begins, refused, unknown, is_riff, Says}

pub record Chunk : Type 0 where
  -- a name of 4 bytes and a size in 4
  pub head : List ℕ
  -- so many bytes, and one more where the size is odd
  pub content : List ℕ

-- the size that a head states
abbrev pub size_in : List ℕ → ℕ
size_in head = number_at 4 4 head

-- a chunk's head has this name
abbrev pub is_named : List ℕ → List ℕ → Bool
is_named name head = starts_with nat_eq head name

abbrev pub bytes_of : Chunk → List ℕ
bytes_of c = c.head ++ c.content

-- a chunk that isn't the data
pub record IsChunk (c : Chunk) : Type 0 where
  pub head : length c.head ≡ 8
  pub content : length c.content ≡ padded (size_in c.head)
  pub other : is_named (codes "data") c.head ≡ false

-- .. nor the format
pub record IsExtra (c : Chunk) : Type 0 where
  pub chunk : IsChunk c
  pub other : is_named (codes "fmt ") c.head ≡ false

-- the chunk that says the format
pub record SaysFormat (c : Chunk) (format : Format) : Type 0 where
  pub chunk : IsChunk c
  pub name : IsTrue (is_named (codes "fmt ") c.head)
  pub judged : judged (size_in c.head) (take 40 c.content) ≡ Ok format

-- any chunks, and the head of the data, which states its size
pub record AreBehindFormat (bytes : List ℕ) (size : ℕ) (rest : List ℕ) : Type 0 where
  pub chunks : List Chunk
  pub head : List ℕ
  pub are : bytes ≡ flat_map bytes_of chunks ++ (head ++ rest)
  pub passed : All IsChunk chunks
  pub eight : length head ≡ 8
  pub name : IsTrue (is_named (codes "data") head)
  pub states : size_in head ≡ size

-- chunks, of which the first that is named `fmt ` says the format, and what is behind it
pub record AreBehindRiff (bytes : List ℕ) (format : Format) (size : ℕ) (rest : List ℕ) : Type 0 where
  pub chunks : List Chunk
  pub fmt : Chunk
  pub behind : List ℕ
  pub are : bytes ≡ flat_map bytes_of chunks ++ (bytes_of fmt ++ behind)
  pub passed : All IsExtra chunks
  pub says : SaysFormat fmt format
  pub data_behind : AreBehindFormat behind size rest

-- A whole header before the rest: RIFF, a size that doesn't count, WAVE, and chunks up to the data.
pub record IsWave (bytes : List ℕ) (format : Format) (size : ℕ) (rest : List ℕ) : Type 0 where
  pub riff : List ℕ
  pub behind : List ℕ
  pub are : bytes ≡ riff ++ behind
  pub twelve : length riff ≡ 12
  pub name : IsTrue (is_riff riff)
  pub chunks : AreBehindRiff behind format size rest

-- bytes say that a header begins exactly where they are one
abbrev pub BeginsWhereWave : Type 0
BeginsWhereWave = (bytes : List ℕ) (format : Format) (size : ℕ) (rest : List ℕ)
    → Says bytes (begins format size rest) ↔ IsWave bytes format size rest

-- data before any format
pub record LacksFormat (bytes : List ℕ) (field : WaveField) : Type 0 where
  pub head : List ℕ
  pub rest : List ℕ
  pub are : bytes ≡ head ++ rest
  pub eight : length head ≡ 8
  pub name : IsTrue (is_named (codes "data") head)
  pub is : field ≡ FmtMissing

-- a format that is refused
pub record RefusesFormat (bytes : List ℕ) (field : WaveField) : Type 0 where
  pub fmt : Chunk
  pub rest : List ℕ
  pub are : bytes ≡ bytes_of fmt ++ rest
  pub chunk : IsChunk fmt
  pub name : IsTrue (is_named (codes "fmt ") fmt.head)
  pub judged : judged (size_in fmt.head) (take 40 fmt.content) ≡ Err field

-- .. behind RIFF and chunks that are passed over
pub record IsWrongBehindRiff (bytes : List ℕ) (field : WaveField) : Type 0 where
  pub chunks : List Chunk
  pub behind : List ℕ
  pub are : bytes ≡ flat_map bytes_of chunks ++ behind
  pub passed : All IsExtra chunks
  pub stops : LacksFormat behind field ⊎ RefusesFormat behind field

pub record IsWrongInside (bytes : List ℕ) (field : WaveField) : Type 0 where
  pub riff : List ℕ
  pub behind : List ℕ
  pub are : bytes ≡ riff ++ behind
  pub twelve : length riff ≡ 12
  pub name : IsTrue (is_riff riff)
  pub chunks : IsWrongBehindRiff behind field

-- other words in the first 12 bytes
pub record IsWrongRiff (bytes : List ℕ) (field : WaveField) : Type 0 where
  pub long : 12 ≤ length bytes
  pub name : is_riff (take 12 bytes) ≡ false
  pub is : field ≡ Riff

-- bytes say that a field is wrong exactly where it is the first that is
abbrev pub RefusedWhereWrong : Type 0
RefusedWhereWrong = (bytes : List ℕ) (field : WaveField) → Says bytes (refused field)
    ↔ (IsWrongRiff bytes field ⊎ IsWrongInside bytes field)

-- bytes have one answer
abbrev pub HasOneAnswer : List ℕ → Type 0
HasOneAnswer bytes = ((answer : Answer) × Says bytes answer × (answer ≡ unknown → ⊥))
    × ((a b : Answer) → Says bytes a → Says bytes b
    → (a ≡ unknown → ⊥) → (b ≡ unknown → ⊥) → a ≡ b)

-- bytes behind a header, or behind a wrong field, change nothing before them
abbrev pub StaysSo : Type 0
StaysSo = (bytes more : List ℕ)
    → ((format : Format) (size : ℕ) (rest : List ℕ) → Says bytes (begins format size rest)
    → Says (bytes ++ more) (begins format size (rest ++ more)))
    × ((field : WaveField) → Says bytes (refused field) → Says (bytes ++ more) (refused field))

-- what `write_wave_header` takes
pub record IsWritable (channels rate bits size : ℕ) : Type 0 where
  pub small : padded size ≤ 4294967235
  pub depth : (bits ≡ 16) ⊎ (bits ≡ 24)
  pub align : align_of channels bits < 2 ^ 16
  pub speed : rate * align_of channels bits < 2 ^ 32
  pub few : channels < 2 ^ 16
  pub slow : rate < 2 ^ 32

-- a header that was written is read back, whatever stands behind it
abbrev pub WrittenIsRead : Type 0
WrittenIsRead = (channels rate bits size : ℕ) (rest : List ℕ) → IsWritable channels rate bits size
    → Says (wave_header channels rate bits size ++ rest)
    (begins (record { channels = channels; rate = rate; depth = bits; width = bits / 8 }) size rest)
