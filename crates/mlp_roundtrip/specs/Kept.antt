-- What a stream keeps of the PCM that it was made of.
use Rattle.std.specs.Prelude.{◌≡◌, ◌<◌, ◌≤◌, ℕ, ◌-◌, ◌*◌, ◌%◌, List, length, None, Ok, ℤ}
use Rattle.mlp_bits.specs.Bits.{bits_of}
use Rattle.mlp_io.specs.Limit.{limit}
use Rattle.mlp_layout.specs.Streams.{Stream}
use Rattle.mlp_contents.specs.Units.{Unit_of, start, whole}
use Rattle.mlp_samples.specs.Samples.{samples}
use Rattle.mlp_decoded.specs.Decoded.{Writes}
use Rattle.mlp_extract.specs.Extract.{extract}
use Rattle.mlp_fold.specs.declared.profile.Profile.{Profile}
use Rattle.mlp_fold.specs.Profile.{checked}
use Rattle.mlp_fold.specs.Substreams.{substreams_of}
use Rattle.mlp_encode.specs.Unit.{joined}
use Rattle.mlp_encoding.specs.Pcm.{sample_size, frame_size, frames_in, first_padded}
use Rattle.mlp_lossless.specs.Lossless.{GivesBack, ArrivesEarliest, ArrivesInTime}

-- the top presentation, which has all channels
abbrev pub top_of : Profile → ℕ
top_of p = substreams_of p.channels - 1

-- raw PCM of whole frames, whose samples have no more bits than the profile says
pub record IsPcmOf (p : Profile) (pcm : List ℕ) : Type 0 where
  pub some : 0 < length pcm
  pub whole : length pcm % frame_size p ≡ 0
  pub clear : first_padded p pcm ≡ None

-- the bytes are a stream for presentation j, and its samples are the frames of PCM themselves
pub record GivesAll (j : ℕ) (frames : List (List ℤ)) (bytes : List ℕ) : Type 0 where
  pub units : List Unit_of
  pub stream : Stream (whole j) (start j) j (bits_of bytes) units
  pub samples_are : samples j units ≡ frames

-- whatever units a stream for presentation k has, what is extracted of them gives back presentation j
abbrev pub GivesBackExtracted : Profile → ℕ → ℕ → List (List ℤ) → List ℕ → Type 0
GivesBackExtracted p k j frames bytes =
    (us : List Unit_of) → Stream (whole k) (start k) k (bits_of bytes) us → GivesBack p j frames (extract k us)

-- The bytes keep PCM of this profile.
pub record Keeps (p : Profile) (pcm bytes : List ℕ) : Type 0 where
  pub passes : checked p ≡ Ok tt
  pub pcm_is : IsPcmOf p pcm
  -- each presentation shows of each frame what its mix makes of it, and the top one the frame itself
  pub gives_back : (j : ℕ) → j < substreams_of p.channels → GivesBack p j (frames_in p pcm) bytes
  pub gives_all : GivesAll (top_of p) (frames_in p pcm) bytes
  -- decoding the top presentation writes the PCM again, byte for byte
  pub decodes : length bytes ≤ limit → Writes (top_of p) (8 * sample_size p.depth) bytes (Ok tt) pcm
  -- each extraction gives back the presentations that it keeps
  pub extracted : (j k : ℕ) → j ≤ k → k < substreams_of p.channels → GivesBackExtracted p k j (frames_in p pcm) bytes
  -- each unit begins to arrive at the earliest time, and has arrived by the time of its output
  pub units : List (List ℕ)
  pub units_are : bytes ≡ joined units
  pub earliest : (j : ℕ) → j < substreams_of p.channels → ArrivesEarliest p j units
  pub in_time : (j : ℕ) → j < substreams_of p.channels → ArrivesInTime p j units
