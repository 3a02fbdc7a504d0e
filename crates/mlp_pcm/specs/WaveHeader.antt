-- The header of a WAVE file, as it is written.
use Rattle.std.specs.Prelude.{ℕ, ◌+◌, ◌*◌, ◌/◌, ◌%◌, List, [], ◌∷◌, ◌++◌, codes}
use Rattle.byteorder.specs.Endian.{little_bytes}

-- the identifier of PCM in an extensible format
abbrev pub pcm_identifier : List ℕ
pcm_identifier = 0x01 ∷ 0x00 ∷ 0x00 ∷ 0x00 ∷ 0x00 ∷ 0x00 ∷ 0x10 ∷ 0x00
    ∷ 0x80 ∷ 0x00 ∷ 0x00 ∷ 0xAA ∷ 0x00 ∷ 0x38 ∷ 0x9B ∷ 0x71 ∷ []

-- the tag of an extensible format
abbrev pub extensible : ℕ
extensible = 0xFFFE

-- a chunk's bytes with the padding byte of an odd size
abbrev pub padded : ℕ → ℕ
padded size = size + size % 2

-- the bytes of a frame
abbrev pub align_of : ℕ → ℕ → ℕ
align_of channels bits = channels * (bits / 8)

-- the header before so many data bytes
abbrev pub wave_header : ℕ → ℕ → ℕ → ℕ → List ℕ
wave_header channels rate bits size =
    codes "RIFF" ++ little_bytes 4 (60 + padded size) ++ codes "WAVE"
    ++ codes "fmt " ++ little_bytes 4 40
    ++ little_bytes 2 extensible ++ little_bytes 2 channels
    ++ little_bytes 4 rate ++ little_bytes 4 (rate * align_of channels bits)
    ++ little_bytes 2 (align_of channels bits) ++ little_bytes 2 bits
    ++ little_bytes 2 22 ++ little_bytes 2 bits ++ little_bytes 4 0 ++ pcm_identifier
    ++ codes "data" ++ little_bytes 4 size
