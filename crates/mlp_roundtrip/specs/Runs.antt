-- What a run of an encoding command has written keeps what it has read.
use Rattle.std.specs.Prelude.{◌≡◌, ℕ, List, take, IfSome, Some}
use Rattle.std.specs.Io.KnownBytes.{Appends}
use Rattle.mlp_syntax.specs.declared.major.Kind.{Kind}
use Rattle.mlp_stream.specs.Sides.{Side}
use Rattle.mlp_pcm.specs.declared.wave_format.Format.{Format}
use Rattle.mlp_pcm.specs.WaveFile.{IsWave}
use Rattle.mlp_fold.specs.declared.profile.Mix.{Mix}
use Rattle.mlp_fold.specs.declared.profile.Profile.{Profile}
use Rattle.mlp_encoding.specs.Wave.{profile_in}
use Rattle.mlp_tool.specs.declared.words.Command.TheVariants as command
use Rattle.mlp_tool.specs.Words.{plain}
use Rattle.mlp_tool.specs.Run.{Ran}
use Rattle.mlp_unit.specs.Laws.{AreBytes}
use Rattle.mlp_roundtrip.specs.Kept.{Keeps}

-- the output gained bytes of which this holds beside those that the input had
abbrev pub Gained : Side → Side → (List ℕ → List ℕ → Type 0) → Type 0
Gained input output P =
    (bytes : List ℕ) × Appends output.before output.behind bytes
    × IfSome input.before (λ all. AreBytes all → P all bytes)

-- the bytes keep the data of a WAVE file, of the kind and the mix that words name, and of what else its header says
pub record KeepsWave (kind : Kind) (mix : Mix) (file bytes : List ℕ) : Type 0 where
  pub format : Format
  pub size : ℕ
  pub rest : List ℕ
  pub header : IsWave file format size rest
  pub keeps : Keeps (profile_in kind mix format) (take size rest) bytes

-- each run of `encode-raw` that ends well
abbrev pub RawKept : Type 0
RawKept =
    (words : List (List ℕ)) (input output errors : Side) (before now : ℕ) (p : Profile)
    → Ran words input output errors before now 0 → plain words ≡ Some (command.EncodeRaw p)
    → Gained input output (Keeps p)

-- .. and of `encode-wav`
abbrev pub WaveKept : Type 0
WaveKept =
    (words : List (List ℕ)) (input output errors : Side) (before now : ℕ) (kind : Kind) (mix : Mix)
    → Ran words input output errors before now 0 → plain words ≡ Some (command.EncodeWav kind mix)
    → Gained input output (KeepsWave kind mix)
