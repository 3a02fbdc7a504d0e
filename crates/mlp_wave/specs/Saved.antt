-- What `decode-wav` makes of a stream: the WAVE file of presentation k with so many bits a sample, or nothing.
use Rattle.std.specs.Prelude.{◌≡◌, ℕ, ◌+◌, ◌<◌, ◌≤◌, List, [], length, Result, Ok, Err, IfSome}
use Rattle.std.specs.Io.KnownBytes.{Consumes, Appends, IsAtEnd}
use Rattle.mlp_io.specs.Limit.{limit}
use Rattle.mlp_stream.specs.declared.stop.Stop.{Stop}
use Rattle.mlp_stream.specs.declared.stop.Stop.TheVariants.{Refused, ReadFault, WriteFault, TooLong}
use Rattle.mlp_stream.specs.Sides.{Side}
use Rattle.mlp_stream.specs.Streams.{IsPrefix}
use Rattle.mlp_answers.specs.declared.failure.Failure.{Failure}
use Rattle.mlp_answers.specs.declared.failure.Failure.TheVariants.{Usage, OutOfMemory, Stopped}
use Rattle.mlp_answers.specs.Answers.{AreUnits, Answer}
use Rattle.mlp_pcm.specs.WaveHeader.{padded}
use Rattle.mlp_contents.specs.Units.{Unit_of}
use Rattle.mlp_sessions.specs.Playing.{playing}
use Rattle.mlp_wave.specs.WaveFile.{wave_file, most_of_samples, stated_channels, stated_rate}

-- the end and the output, by what `decode-raw` answers to the same input
pub data Saves (k bits : ℕ) (all : List ℕ) : Result Unit Stop → List ℕ → Type 0 where
  -- it writes all samples, and the header states how many bytes these are
  fits : (us : List Unit_of) (samples : List ℕ) → AreUnits (playing k bits) all us
      → Answer (playing k bits) all (Ok tt) samples → padded (length samples) ≤ most_of_samples
      → Saves k bits all (Ok tt) (wave_file (stated_channels k us) (stated_rate k us) bits samples)
  -- .. or it can't
  too_many : (samples : List ℕ) → Answer (playing k bits) all (Ok tt) samples
      → most_of_samples < padded (length samples) → Saves k bits all (Err TooLong) []
  -- it stops
  stops : (stop : Stop) (samples : List ℕ) → Answer (playing k bits) all (Err stop) samples
      → Saves k bits all (Err stop) []

-- an end and an output, and no other
pub record HasOneFile (k bits : ℕ) (all : List ℕ) : Type 0 where
  pub some : (end : Result Unit Stop) × (output : List ℕ) × Saves k bits all end output
  pub one :
      (e f : Result Unit Stop) (xs ys : List ℕ) → Saves k bits all e xs → Saves k bits all f ys
      → (e ≡ f) × (xs ≡ ys)

module _ (k bits : ℕ) where
  -- it stops with nothing written
  abbrev pub StopsBefore : Side → List ℕ → Stop → Type 0
  StopsBefore input put stop = (put ≡ []) × IfSome input.before (λ all. Saves k bits all (Err stop) [])

  -- what the output got begins the file of the whole input
  abbrev pub Begun : List ℕ → List ℕ → Type 0
  Begun all put = (file : List ℕ) × Saves k bits all (Ok tt) file × IsPrefix put file

  -- what the output got, by the end: nothing before the whole input was read
  abbrev pub Wrote : Side → List ℕ → Result Unit Failure → Type 0
  Wrote input put (Ok _) = IsAtEnd input.behind × IfSome input.before (λ all. Saves k bits all (Ok tt) put)
  Wrote input put (Err Usage) = ⊥
  Wrote input put (Err OutOfMemory) = put ≡ []
  Wrote input put (Err (Stopped (Refused r))) = StopsBefore input put (Refused r)
  Wrote input put (Err (Stopped ReadFault)) = put ≡ []
  Wrote input put (Err (Stopped WriteFault)) = IsAtEnd input.behind × IfSome input.before (λ all. Begun all put)
  Wrote input put (Err (Stopped TooLong)) = StopsBefore input put TooLong

  -- the input lost the bytes taken, no more than one past the limit, and the output gained the bytes put
  pub record Saved (input output : Side) (end : Result Unit Failure) : Type 0 where
    pub taken : List ℕ
    pub put : List ℕ
    pub few : length taken ≤ limit + 1
    pub reads : Consumes input.before input.behind taken
    pub writes : Appends output.before output.behind put
    pub wrote : Wrote input put end
