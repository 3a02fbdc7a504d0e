-- The WAVE file of a presentation.
use Rattle.std.specs.Prelude.{◌≡◌, ℕ, ◌%◌, ◌<◌, ◌≤◌, List, ◌++◌, length, replicate, Result, Ok, Err}
use Rattle.std.specs.Io.KnownBytes.{Appends}
use Rattle.mlp_layout.specs.Streams.{left_after}
use Rattle.mlp_stream.specs.declared.stop.Stop.{Stop}
use Rattle.mlp_stream.specs.declared.stop.Stop.TheVariants.{Refused, ReadFault, WriteFault, TooLong}
use Rattle.mlp_stream.specs.Sides.{Side}
use Rattle.mlp_stream.specs.Gathers.{IsWriteStop}
use Rattle.mlp_pcm.specs.WaveHeader.{padded, wave_header}
use Rattle.mlp_contents.specs.Units.{Unit_of, start, whole}
use Rattle.mlp_present.specs.Decoding.{channels_by}
use Rattle.mlp_sessions.specs.Playing.{places}
use Rattle.mlp_unit.specs.AccessUnit.{stream_rate}

-- a header, the bytes of the samples, and a padding byte where their number is odd
abbrev pub wave_file : ℕ → ℕ → ℕ → List ℕ → List ℕ
wave_file channels rate bits samples =
    wave_header channels rate bits (length samples) ++ samples ++ replicate (length samples % 2) 0

-- the most bytes, with the padding byte, that the header states
abbrev pub most_of_samples : ℕ
most_of_samples = 4294967235

-- the channels of presentation k, and the sampling rate in hertz, of a stream of these units
abbrev pub stated_channels : ℕ → List Unit_of → ℕ
stated_channels k us = places (channels_by k (left_after (whole k) (start k) us))

abbrev pub stated_rate : ℕ → List Unit_of → ℕ
stated_rate k us = stream_rate (left_after (whole k) (start k) us).sync

-- a file of these samples was written, or the front of it, or nothing where they are too many
abbrev pub PutFile : List ℕ → List ℕ → Side → Result Unit Stop → Type 0
PutFile samples file output (Ok _) =
    (padded (length samples) ≤ most_of_samples) × Appends output.before output.behind file
PutFile samples file output (Err (Refused r)) = ⊥
PutFile samples file output (Err ReadFault) = ⊥
PutFile samples file output (Err WriteFault) =
    (padded (length samples) ≤ most_of_samples) × IsWriteStop output file WriteFault
PutFile samples file output (Err TooLong) =
    (most_of_samples < padded (length samples)) × (output.behind ≡ output.before)
