-- That a stream gives back what it was made of, at the times of its earliest schedule.
use Rattle.std.specs.Prelude.{◌≡◌, ◌<◌, ℕ, ◌*◌, List, length, map, ℤ}
use Rattle.mlp_bits.specs.Bits.{bits_of}
use Rattle.mlp_layout.specs.Streams.{Stream}
use Rattle.mlp_contents.specs.Units.{Unit_of, whole, start}
use Rattle.mlp_samples.specs.Samples.{samples}
use Rattle.mlp_fifo.specs.Pace.{pace_of}
use Rattle.mlp_fifo.specs.Timed.{AreTimed}
use Rattle.mlp_fifo.specs.Fitting.{first_timing, IsFitting}
use Rattle.mlp_fold.specs.declared.profile.Profile.{Profile}
use Rattle.mlp_fold.specs.Mix.{presented_of}
use Rattle.mlp_fold.specs.Substreams.{substreams_of}
use Rattle.mlp_encode.specs.Numbers.{low_zeros}
use Rattle.mlp_encode.specs.Left.{Left}
use Rattle.mlp_encode.specs.Unit.{joined}
use Rattle.mlp_lossless.specs.Streams.{IsSent}
use Rattle.mlp_lossless.specs.Timings.{timings_of, timings_at}

-- The bytes are a stream for presentation j, and its samples are what the presentation shows of each frame of PCM: in eight
-- places, zeros behind the channels of the presentation. Frames that fill up the last unit are dropped.
pub record GivesBack (p : Profile) (j : ℕ) (pcm : List (List ℤ)) (bytes : List ℕ) : Type 0 where
  pub units : List Unit_of
  pub stream : Stream (whole j) (start j) j (bits_of bytes) units
  pub samples_are : samples j units ≡ map (presented_of p.mix (low_zeros p.depth) p.channels j) pcm

-- The units of a stream for presentation j have these lengths and the timings that belong to them: they begin to arrive
-- at the times of the earliest schedule, and all restart headers tell when their units are output.
pub record ArrivesEarliest (p : Profile) (j : ℕ) (bytes : List (List ℕ)) : Type 0 where
  pub units : List Unit_of
  pub stream : Stream (whole j) (start j) j (bits_of (joined bytes)) units
  pub lengths : map (λ u. 2 * u.outer.head.words) units ≡ map (λ unit. length unit) bytes
  pub fitting : IsFitting (pace_of p.kind p.rate) (timings_at units) (length units)

-- They have the timing of a stream: each unit has arrived by the time of its output, and the buffer holds what is held.
pub record ArrivesInTime (p : Profile) (j : ℕ) (bytes : List (List ℕ)) : Type 0 where
  pub units : List Unit_of
  pub stream : Stream (whole j) (start j) j (bits_of (joined bytes)) units
  pub timed : AreTimed p.kind p.rate (map (λ u. first_timing (timings_of u)) units)

-- what holds of each stream that is sent whole, and of each presentation that it has
abbrev pub EachSent : ((p : Profile) → List (List (List ℤ)) → List (List ℕ) → ℕ → Type 0) → Type 0
EachSent P =
    (p : Profile) (frames : List (List (List ℤ))) (units : List (List ℕ)) (left : Left) (j : ℕ) →
    IsSent p frames units left → j < substreams_of p.channels → P p frames units j
