-- What `encode-wav` makes of a WAVE file.
use Rattle.std.specs.Prelude.{◌≡◌, ℕ, Bool, true, false, List, [], Result, Ok, Err, Some}
use Rattle.mlp_syntax.specs.declared.major.Kind.{Kind}
use Rattle.mlp_syntax.specs.declared.refusal.PcmFault.TheVariants.{WaveHeader, Profile}
use Rattle.mlp_syntax.specs.declared.refusal.ProfileFault.{ProfileFault}
use Rattle.mlp_syntax.specs.declared.refusal.WaveField.{WaveField}
use Rattle.mlp_stream.specs.declared.stop.Stop.{Stop}
use Rattle.mlp_stream.specs.declared.refusal.Refusal.TheVariants.{Pcm}
use Rattle.mlp_stream.specs.declared.stop.Stop.TheVariants.{Refused, ReadFault, TooLong}
use Rattle.mlp_stream.specs.Sides.{Side}
use Rattle.mlp_answers.specs.declared.failure.Failure.{Failure}
use Rattle.mlp_answers.specs.declared.failure.Failure.TheVariants.{Stopped}
use Rattle.mlp_pcm.specs.declared.wave_bytes.WaveRefusal.{WaveRefusal}
use Rattle.mlp_pcm.specs.declared.wave_bytes.WaveRefusal.TheVariants.{Read, Header, TooLong as HeaderTooLong}
use Rattle.mlp_pcm.specs.declared.wave_format.Format.{Format}
use Rattle.mlp_pcm.specs.WaveScan.{begins, refused, unfinished, Says}
use Rattle.mlp_fold.specs.declared.profile.Profile.{Profile as Wanted}
use Rattle.mlp_fold.specs.declared.profile.Mix.{Mix}
use Rattle.mlp_fold.specs.Profile.{checked}
use Rattle.mlp_encoding.specs.Pcm.{refusing}
use Rattle.mlp_encoding.specs.Encoded.{Encoded}
use Rattle.mlp_encoding.specs.Encodes.{Does}

-- what is wanted of a kind and a mix, by what a header says
abbrev pub profile_in : Kind → Mix → Format → Wanted
profile_in kind mix format =
    record { kind = kind; rate = format.rate; channels = format.channels; depth = format.depth; mix = mix }

-- the end and the output, where bytes are all (true) or may go on (false)
pub data WaveEncoded (kind : Kind) (mix : Mix) (ended : Bool) (bytes : List ℕ) :
    Result Unit Stop → List ℕ → Type 0 where
  -- the data behind a header are encoded
  encoded : {end : Result Unit Stop} {output : List ℕ} (format : Format) (size : ℕ) (rest : List ℕ)
      → Says bytes (begins format size rest) → checked (profile_in kind mix format) ≡ Ok tt
      → Encoded (profile_in kind mix format) (Some size) ended rest end output
      → WaveEncoded kind mix ended bytes end output
  -- a header whose profile can't be encoded
  unfit : (format : Format) (size : ℕ) (rest : List ℕ) (fault : ProfileFault)
      → Says bytes (begins format size rest) → checked (profile_in kind mix format) ≡ Err fault
      → WaveEncoded kind mix ended bytes (refusing (Profile fault)) []
  -- a header with a wrong field
  wrong : (field : WaveField) → Says bytes (refused field)
      → WaveEncoded kind mix ended bytes (refusing (WaveHeader field)) []
  -- .. or which is cut off
  cut : (field : WaveField) → ended ≡ true → Says bytes (unfinished field)
      → WaveEncoded kind mix ended bytes (refusing (WaveHeader field)) []
  -- .. or may go on
  waits : (field : WaveField) → ended ≡ false → Says bytes (unfinished field)
      → WaveEncoded kind mix ended bytes (Err TooLong) []

-- a WAVE file is encoded
abbrev pub EncodesWave : Kind → Mix → Side → Side → Result Unit Failure → Type 0
EncodesWave kind mix input output end = Does (WaveEncoded kind mix) input output end

-- why a header stops the work
abbrev pub header_failure : WaveRefusal → Failure
header_failure Read = Stopped ReadFault
header_failure (Header field) = Stopped (Refused (Pcm (WaveHeader field)))
header_failure HeaderTooLong = Stopped TooLong
