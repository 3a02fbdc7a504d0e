-- What comes of a stream that is retimed.
use Rattle.std.specs.Prelude.{ℕ, ◌+◌, List}
use Rattle.mlp_bits.specs.Bits.{bits_of}
use Rattle.mlp_layout.specs.Streams.{Has, Stream}
use Rattle.mlp_contents.specs.Units.{Unit_of, start, whole}

-- bytes are a stream for presentation k, the highest that its first unit tells
pub record IsHighest (k : ℕ) (bytes : List ℕ) (us : List Unit_of) : Type 0 where
  pub stream : Stream (whole k) (start k) k (bits_of bytes) us
  pub told : Has (whole k) (start k) (bits_of bytes) (k + 1)
