-- What the law of the file says.
use Rattle.std.specs.Prelude.{◌≡◌, ℕ, ◌≤◌, List, length, None}
use Rattle.mlp_io.specs.Limit.{limit}
use Rattle.mlp_bits.specs.Bits.{bits_of}
use Rattle.mlp_layout.specs.Streams.{Stream}
use Rattle.mlp_pcm.specs.Samples.{first_low}
use Rattle.mlp_contents.specs.Units.{Unit_of, start, whole}
use Rattle.mlp_samples.specs.Samples.{samples, first_sync}
use Rattle.mlp_unit.specs.AccessUnit.{stream_rate}
use Rattle.mlp_decoded.specs.Decoded.{channels, decoded}
use Rattle.mlp_wave.specs.WaveFile.{wave_file}

-- bytes within the limit are a stream of these units for presentation k, whose samples so many bits hold
pub record IsHeld (k bits : ℕ) (bytes : List ℕ) (us : List Unit_of) : Type 0 where
  pub few : length bytes ≤ limit
  pub stream : Stream (whole k) (start k) k (bits_of bytes) us
  pub none_low : first_low bits (channels k us) (samples k us) ≡ None

-- the file of the samples, in the channels of the presentation and at the rate of the first major sync
abbrev pub stream_file : ℕ → ℕ → List Unit_of → List ℕ
stream_file k bits us = wave_file (channels k us) (stream_rate (first_sync us)) bits (decoded k bits us)
