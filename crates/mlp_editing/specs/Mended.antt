-- What `recover` does to an input and an output.
use Rattle.std.specs.Prelude.{◌≡◌, ℕ, ◌+◌, ◌<◌, ◌≤◌, List, [], length, Result, Ok, Err, IfSome}
use Rattle.std.specs.Io.KnownBytes.{Consumes, Appends, IsAtEnd}
use Rattle.mlp_io.specs.Limit.{limit}
use Rattle.mlp_stream.specs.declared.stop.Stop.TheVariants.{Refused, ReadFault, WriteFault, TooLong}
use Rattle.mlp_stream.specs.Sides.{Side}
use Rattle.mlp_stream.specs.Streams.{IsPrefix}
use Rattle.mlp_stream.specs.Gathers.{IsWriteStop}
use Rattle.mlp_answers.specs.declared.failure.Failure.{Failure}
use Rattle.mlp_answers.specs.declared.failure.Failure.TheVariants.{Usage, OutOfMemory, Stopped}
use Rattle.mlp_recover.specs.Recovered.{Piece, AreRecovered}
use Rattle.mlp_editing.specs.Told.{all_told}

-- the text of what is recovered of an input, which isn't too long
pub record IsMended (k : ℕ) (all text : List ℕ) : Type 0 where
  pub few : length all ≤ limit
  pub pieces : List Piece
  pub recovered : AreRecovered k all pieces
  pub text_is : text ≡ all_told k pieces

-- what the output got of what is recovered of these bytes
abbrev pub Tells : ℕ → List ℕ → Side → Result Unit Failure → Type 0
Tells k all output (Ok _) = (text : List ℕ) × IsMended k all text × Appends output.before output.behind text
Tells k all output (Err Usage) = ⊥
Tells k all output (Err OutOfMemory) = output.behind ≡ output.before
Tells k all output (Err (Stopped stop)) = (text : List ℕ) × IsMended k all text × IsWriteStop output text stop

-- what the output got, by the end: nothing before the input was read to its end
abbrev pub Wrote : ℕ → Side → List ℕ → Result Unit Failure → Type 0
Wrote k input put (Ok _) = IsAtEnd input.behind × IfSome input.before (λ all. IsMended k all put)
Wrote k input put (Err Usage) = ⊥
Wrote k input put (Err OutOfMemory) = put ≡ []
Wrote k input put (Err (Stopped (Refused r))) = (put ≡ []) × IfSome input.before (λ all. ⊥)
Wrote k input put (Err (Stopped ReadFault)) = put ≡ []
Wrote k input put (Err (Stopped WriteFault)) =
    IsAtEnd input.behind × IfSome input.before (λ all. (text : List ℕ) × IsMended k all text × IsPrefix put text)
Wrote k input put (Err (Stopped TooLong)) = (put ≡ []) × IfSome input.before (λ all. limit < length all)

-- the input lost the bytes taken, no more than one past the limit, and the output gained those put, which are what is
-- recovered of it for presentation k
pub record Mended (k : ℕ) (input output : Side) (end : Result Unit Failure) : Type 0 where
  pub taken : List ℕ
  pub put : List ℕ
  pub few : length taken ≤ limit + 1
  pub reads : Consumes input.before input.behind taken
  pub writes : Appends output.before output.behind put
  pub wrote : Wrote k input put end
