-- What comes of PCM that is encoded whole.
use Rattle.std.specs.Prelude.{◌≡◌, ◌<◌, ℕ, true, List, None, Some, Ok, ℤ}
use Rattle.mlp_syntax.specs.declared.major.Kind.{Kind}
use Rattle.mlp_pcm.specs.declared.wave_format.Format.{Format}
use Rattle.mlp_pcm.specs.WaveScan.{begins, Says}
use Rattle.mlp_fold.specs.declared.profile.Mix.{Mix}
use Rattle.mlp_fold.specs.declared.profile.Profile.{Profile}
use Rattle.mlp_fold.specs.Profile.{checked}
use Rattle.mlp_fold.specs.Substreams.{substreams_of}
use Rattle.mlp_unit.specs.Laws.{AreBytes}
use Rattle.mlp_encode.specs.Left.{Left}
use Rattle.mlp_encode.specs.Unit.{joined}
use Rattle.mlp_lossless.specs.Chosen.{IsChosenStream}
use Rattle.mlp_lossless.specs.Lossless.{GivesBack, ArrivesEarliest, ArrivesInTime}
use Rattle.mlp_lossless.specs.Streams.{all_frames, IsSent}
use Rattle.mlp_encoding.specs.Pcm.{frames_in, data_in}
use Rattle.mlp_encoding.specs.Encoded.{Encoded}
use Rattle.mlp_encoding.specs.Wave.{profile_in, WaveEncoded}

-- The bytes are what is sent, unit by unit, of all frames of PCM, and each unit has a place in time.
pub record IsStreamOf (p : Profile) (pcm stream : List ℕ) : Type 0 where
  pub frames : List (List (List ℤ))
  pub units : List (List ℕ)
  pub left : Left
  pub sent : IsSent p frames units left
  pub all : all_frames frames ≡ frames_in p pcm
  pub stream_is : stream ≡ joined units

-- raw PCM that is encoded to the end gives such a stream
abbrev pub RawIsSent : Type 0
RawIsSent =
    (p : Profile) (bytes output : List ℕ) → checked p ≡ Ok tt → AreBytes bytes
    → Encoded p None true bytes (Ok tt) output → IsStreamOf p bytes output

-- .. and so do the data of a WAVE file
abbrev pub WaveIsSent : Type 0
WaveIsSent =
    (kind : Kind) (mix : Mix) (bytes output : List ℕ) (format : Format) (size : ℕ) (rest : List ℕ)
    → Says bytes (begins format size rest) → AreBytes rest → WaveEncoded kind mix true bytes (Ok tt) output
    → IsStreamOf (profile_in kind mix format) (data_in (Some size) rest) output

-- presentation j of a stream of PCM shows its frames, and its units are in time and cost least
pub record IsLossless (p : Profile) (j : ℕ) (pcm stream : List ℕ) (units : List (List ℕ)) : Type 0 where
  pub back : GivesBack p j (frames_in p pcm) stream
  pub earliest : ArrivesEarliest p j units
  pub in_time : ArrivesInTime p j units
  pub chosen : IsChosenStream p j units

abbrev pub StreamIsLossless : Type 0
StreamIsLossless =
    (p : Profile) (pcm stream : List ℕ) (j : ℕ) (is : IsStreamOf p pcm stream) → j < substreams_of p.channels
    → IsLossless p j pcm stream is.units
