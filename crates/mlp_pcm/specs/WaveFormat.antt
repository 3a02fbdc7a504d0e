-- What the fmt chunk of a WAVE file says.
use Rattle.std.specs.Prelude.{ℕ, ◌*◌, ◌&&◌, ◌||◌, not, ◌==◌, nat_lt, nat_eq, Bool, List, drop, Ok, Err, if◌then◌else◌}
use Rattle.std.specs.declared.result.Result.{Result}
use Rattle.std.specs.Int.{div_ceil}
use Rattle.std.specs.List.{starts_with}
use Rattle.byteorder.specs.Endian.{little_number}
use Rattle.mlp_syntax.specs.declared.refusal.WaveField.{WaveField}
use Rattle.mlp_syntax.specs.declared.refusal.WaveField.TheVariants.{FmtSize, Tag, Bits, Align}
use Rattle.mlp_pcm.specs.declared.wave_format.Format.{Format}
use Rattle.mlp_pcm.specs.WaveHeader.{extensible, pcm_identifier}

-- the number of n bytes at a place
abbrev pub number_at : ℕ → ℕ → List ℕ → ℕ
number_at n place bytes = little_number n (drop place bytes)

-- the depth where samples of so many bits have so many bytes, or 0 where there are no such samples
abbrev pub depth_of : ℕ → ℕ → ℕ
depth_of width bits = if (bits == 16 && width == 2) || ((bits == 20 || bits == 24) && width == 3) then bits else 0

-- the bits of a sample that count: those that an extensible format says are valid, where it says any
unfoldable pub bits_of : List ℕ → ℕ
bits_of content = if number_at 2 0 content == extensible && not (number_at 2 18 content == 0)
    then number_at 2 18 content else number_at 2 14 content

-- the bytes of a sample
abbrev pub width_of : List ℕ → ℕ
width_of content = div_ceil (number_at 2 14 content) 8

unfoldable pub too_small : ℕ → List ℕ → Bool
too_small size content = nat_lt size 16 || (number_at 2 0 content == extensible && nat_lt size 40)

unfoldable pub pcm : List ℕ → Bool
pcm content = number_at 2 0 content == 1
    || (number_at 2 0 content == extensible && starts_with nat_eq (drop 24 content) pcm_identifier)

unfoldable pub wrong_bits : List ℕ → Bool
wrong_bits content = number_at 2 14 content == 0 || nat_lt 32 (number_at 2 14 content)

unfoldable pub aligned : List ℕ → Bool
aligned content = number_at 2 12 content == number_at 2 2 content * width_of content

-- the samples that it describes
unfoldable pub described : List ℕ → Format
described content = record {
  channels = number_at 2 2 content;
  rate = number_at 4 4 content;
  depth = depth_of (width_of content) (bits_of content);
  width = width_of content;
}

-- what a fmt chunk of a size that begins with these bytes says, or the first field that is wrong
unfoldable pub judged : ℕ → List ℕ → Result Format WaveField
judged size content =
    if too_small size content then Err FmtSize
    else (if not (pcm content) then Err Tag
    else (if wrong_bits content then Err Bits
    else (if not (aligned content) then Err Align
    else Ok (described content))))
