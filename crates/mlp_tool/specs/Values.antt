-- The values of options.
use Rattle.std.specs.Prelude.{ℕ, List, Option, Some, None, if◌then◌else◌, codes}
use Rattle.std.specs.Str.{bytes_eq}
use Rattle.mlp_syntax.specs.declared.major.Kind.{Kind}
use Rattle.mlp_syntax.specs.declared.major.Kind.TheVariants.{Fbb, Fba}
use Rattle.mlp_fold.specs.declared.profile.Mix.{Mix}
use Rattle.mlp_fold.specs.declared.profile.Mix.TheVariants.{Split, Fold, Bypass, Side}
use Rattle.mlp_tool.specs.Numbers.{number_within}

-- ---- of commands that read streams

-- the presentations that can be asked for
abbrev pub presentation_of : List ℕ → Option ℕ
presentation_of word =
    if bytes_eq word (codes "0") then Some 0
    else if bytes_eq word (codes "1") then Some 1
    else if bytes_eq word (codes "2") then Some 2
    else None

-- the bits of a sample
abbrev pub bits_of : List ℕ → Option ℕ
bits_of word = if bytes_eq word (codes "16") then Some 16 else if bytes_eq word (codes "24") then Some 24 else None

-- .. which are 24 where no option names them
abbrev pub bits_by : Option (List ℕ) → Option ℕ
bits_by None = Some 24
bits_by (Some word) = bits_of word

-- ---- of commands that encode

abbrev pub kind_of : List ℕ → Option Kind
kind_of word = if bytes_eq word (codes "mlp") then Some Fbb
    else if bytes_eq word (codes "truehd") then Some Fba else None

-- samples a second
abbrev pub rate_of : List ℕ → Option ℕ
rate_of word =
    if bytes_eq word (codes "44100") then Some 44100
    else if bytes_eq word (codes "48000") then Some 48000
    else if bytes_eq word (codes "88200") then Some 88200
    else if bytes_eq word (codes "96000") then Some 96000
    else if bytes_eq word (codes "176400") then Some 176400
    else if bytes_eq word (codes "192000") then Some 192000
    else None

abbrev pub channels_of : List ℕ → Option ℕ
channels_of word =
    if bytes_eq word (codes "2") then Some 2
    else if bytes_eq word (codes "6") then Some 6
    else if bytes_eq word (codes "8") then Some 8
    else None

-- the bits of a sample of PCM
abbrev pub depth_of : List ℕ → Option ℕ
depth_of word =
    if bytes_eq word (codes "16") then Some 16
    else if bytes_eq word (codes "20") then Some 20
    else if bytes_eq word (codes "24") then Some 24
    else None

abbrev pub mix_of : List ℕ → Option Mix
mix_of word =
    if bytes_eq word (codes "split") then Some Split
    else if bytes_eq word (codes "fold") then Some Fold
    else if bytes_eq word (codes "bypass") then Some Bypass
    else if bytes_eq word (codes "side") then Some Side
    else None

-- .. which is that of each channel by itself where no option names it
abbrev pub mix_by : Option (List ℕ) → Option Mix
mix_by None = Some Split
mix_by (Some word) = mix_of word

-- ---- of `gen`

-- the access units to make
abbrev pub units_of : List ℕ → Option ℕ
units_of word = number_within 1 100000 word

abbrev pub seed_of : List ℕ → Option ℕ
seed_of word = number_within 0 4294967295 word
