-- What a command does to an input and an output.
use Rattle.std.specs.Prelude.{◌≡◌, ℕ, ◌+◌, ◌≤◌, List, ◌++◌, length, Result, Ok, Err, IfSome}
use Rattle.std.specs.Io.KnownBytes.{Consumes, Appends, IsAtEnd}
use Rattle.mlp_io.specs.Limit.{limit}
use Rattle.mlp_stream.specs.declared.stop.Stop.{Stop}
use Rattle.mlp_stream.specs.declared.stop.Stop.TheVariants.{Refused, ReadFault, WriteFault, TooLong}
use Rattle.mlp_stream.specs.Sides.{Side}
use Rattle.mlp_stream.specs.Sizes.{window_room}
use Rattle.mlp_stream.specs.Streams.{IsPrefix}
use Rattle.mlp_answers.specs.Working.{Working}
use Rattle.mlp_answers.specs.Answers.{Answer, Soon, refusing}

module _ {L O C : Type 0} (w : Working L O C) where
  -- no more came out than the bytes taken say, and no less than they say without the latest 16,380
  pub record IsTimely (taken put : List ℕ) : Type 0 where
    pub sure : (xs : List ℕ) × Soon w taken xs × IsPrefix put xs
    pub prompt : (early late : List ℕ) → taken ≡ early ++ late → window_room ≤ length late
        → (xs : List ℕ) × Soon w early xs × IsPrefix xs put

  -- what the output got begins what it would get
  abbrev pub Begun : List ℕ → List ℕ → Type 0
  Begun all put = (end : Result Unit Stop) × (output : List ℕ) × Answer w all end output × IsPrefix put output

  -- what the output got, by the end
  abbrev pub Wrote : Side → List ℕ → List ℕ → Result Unit Stop → Type 0
  Wrote input taken put (Ok _) = IsAtEnd input.behind × IfSome input.before (λ all. Answer w all (Ok tt) put)
  Wrote input taken put (Err (Refused r)) = IfSome input.before (λ all. Answer w all (refusing r) put)
  Wrote input taken put (Err ReadFault) = IsTimely taken put
  Wrote input taken put (Err WriteFault) = IfSome input.before (λ all. Begun all put)
  Wrote input taken put (Err TooLong) = IfSome input.before (λ all. Answer w all (Err TooLong) put)

  -- the input lost the bytes taken, no more than one past the limit, and the output gained the bytes put
  pub record Works (input output : Side) (end : Result Unit Stop) : Type 0 where
    pub taken : List ℕ
    pub put : List ℕ
    pub few : length taken ≤ limit + 1
    pub reads : Consumes input.before input.behind taken
    pub writes : Appends output.before output.behind put
    pub wrote : Wrote input taken put end
