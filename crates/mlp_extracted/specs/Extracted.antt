-- The units of an extraction, and what it keeps of a stream.
use Rattle.std.specs.Prelude.{◌≡◌, ℕ, List, map}
use Rattle.mlp_bits.specs.Bits.{bits_of}
use Rattle.mlp_layout.specs.Streams.{Stream}
use Rattle.mlp_unit.specs.Extracted.{extracted}
use Rattle.mlp_contents.specs.Units.{Unit_of, start, whole}
use Rattle.mlp_samples.specs.Samples.{samples}
use Rattle.mlp_likeness.specs.Cut.{frames_by_unit}
use Rattle.mlp_extract.specs.Extract.{extract}

-- a unit with what presentation k needs of its outer part, and the same segments
abbrev pub extracted_unit : ℕ → Unit_of → Unit_of
extracted_unit k u = record { outer = extracted k u.outer; contents = u.contents }

abbrev pub extracted_units : ℕ → List Unit_of → List Unit_of
extracted_units k us = map (extracted_unit k) us

-- for presentation j the bytes of an extraction of presentation k are what these units are: a stream, with the same frames and
-- samples, and what is extracted of it for j is the same too
pub record PlaysSame (k j : ℕ) (extraction : List ℕ) (us : List Unit_of) : Type 0 where
  pub stream : Stream (whole j) (start j) j (bits_of extraction) (extracted_units k us)
  pub frames : frames_by_unit j (extracted_units k us) ≡ frames_by_unit j us
  pub samples : samples j (extracted_units k us) ≡ samples j us
  pub extract : extract j (extracted_units k us) ≡ extract j us

-- these are the units of an extraction of presentation k, of bytes that are a stream for presentation j
pub record IsExtractedFrom (k j : ℕ) (bytes : List ℕ) (us : List Unit_of) : Type 0 where
  pub units : List Unit_of
  pub stream : Stream (whole j) (start j) j (bits_of bytes) units
  pub same : us ≡ extracted_units k units
