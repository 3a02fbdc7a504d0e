-- What a run of a session over an input and an output says.
use Rattle.std.specs.Prelude.{◌≡◌, ℕ, ◌+◌, ◌-◌, ◌≤◌, ◌++◌, Bool, true, false, List, length, Result, Ok, Err, Option, IfSome}
use Rattle.std.specs.Io.KnownBytes.{Consumes, Appends, IsAtEnd}
use Rattle.mlp_stream.specs.declared.refusal.Refusal.{Refusal}
use Rattle.mlp_stream.specs.declared.stop.Stop.{Stop}
use Rattle.mlp_stream.specs.declared.stop.Stop.TheVariants.{Refused, ReadFault, WriteFault, TooLong}
use Rattle.mlp_stream.specs.declared.window.Rest.{Rest}
use Rattle.mlp_stream.specs.declared.window.Rest.TheVariants.{Over}
use Rattle.mlp_stream.specs.Sides.{Side}
use Rattle.mlp_stream.specs.Moves.{Move, Waits, Refuses}
use Rattle.mlp_io.specs.Limit.{limit}
use Rattle.mlp_stream.specs.Sizes.{window_room}
use Rattle.mlp_stream.specs.Held.{Held, Fails}
use Rattle.mlp_stream.specs.Gathers.{IsWriteStop}
use Rattle.mlp_stream.specs.Streams.{Outcome, IsPrefix, answer, soon}

abbrev pub is_read_fault : Result Unit Stop → Bool
is_read_fault (Ok _) = false
is_read_fault (Err (Refused r)) = false
is_read_fault (Err ReadFault) = true
is_read_fault (Err WriteFault) = false
is_read_fault (Err TooLong) = false

abbrev pub is_write_fault : Result Unit Stop → Bool
is_write_fault (Ok _) = false
is_write_fault (Err (Refused r)) = false
is_write_fault (Err ReadFault) = false
is_write_fault (Err WriteFault) = true
is_write_fault (Err TooLong) = false

-- the input failed, once what was gathered was written, or that failed
abbrev pub IsInputStop : Held → Side → Side → List ℕ → Stop → Type 0
IsInputStop window input output gathered (Refused r) = ⊥
IsInputStop window input output gathered ReadFault = Fails window input × Appends output.before output.behind gathered
IsInputStop window input output gathered WriteFault =
    (input.behind ≡ input.before) × IsWriteStop output gathered WriteFault
IsInputStop window input output gathered TooLong = ⊥

-- the next unit is refused, or past the limit it isn't all there
abbrev pub IsUnitStop : {S : Type 0} → Move S → Rest → Stop → Type 0
IsUnitStop move rest (Refused r) = move ≡ Refuses r
IsUnitStop move rest ReadFault = ⊥
IsUnitStop move rest WriteFault = ⊥
IsUnitStop move rest TooLong = (move ≡ Waits) × (rest ≡ Over)

-- the end is refused, or past the limit it isn't there
abbrev pub IsLastStop : Result (List ℕ) Refusal → Rest → Stop → Type 0
IsLastStop last rest (Refused r) = (last ≡ Err r) × (rest ≡ Over → ⊥)
IsLastStop last rest ReadFault = ⊥
IsLastStop last rest WriteFault = ⊥
IsLastStop last rest TooLong = rest ≡ Over

-- of a session s, where so many bytes of the input were taken earlier
module _ {S : Type 0} (step : S → Bool → List ℕ → Move S) (last : S → Result (List ℕ) Refusal)
    (earlier : ℕ) (s : S) where
  -- the answer to a whole input, of which some bytes were taken earlier
  abbrev pub answer_to : List ℕ → Outcome S
  answer_to all = answer step last (limit - earlier) s all

  -- this end and this output are the answer to the input, where it tells its bytes
  abbrev pub IsAnswer : Option (List ℕ) → Result Unit Stop → List ℕ → Type 0
  IsAnswer input end put = IfSome input (λ all. ((answer_to all).end ≡ end) × ((answer_to all).output ≡ put))

  -- t is what the moves over all of the input leave
  abbrev pub IsBehind : Option (List ℕ) → S → Type 0
  IsBehind input t = IfSome input (λ all. (answer_to all).session ≡ t)

  -- no more came out than the bytes taken say, and no less than they say without the latest 16,380
  pub record IsTimely (taken put : List ℕ) : Type 0 where
    pub sure : IsPrefix put (soon step last s taken)
    pub prompt : (early late : List ℕ) → taken ≡ early ++ late → window_room ≤ length late
        → IsPrefix (soon step last s early) put

  -- by the end of the run, which leaves the session t
  abbrev pub Says : Side → List ℕ → List ℕ → S → Result Unit Stop → Type 0
  Says input taken put t (Ok _) = IsAtEnd input.behind × IsAnswer input.before (Ok tt) put × IsBehind input.before t
  Says input taken put t (Err (Refused r)) = IsAnswer input.before (Err (Refused r)) put
  Says input taken put t (Err ReadFault) = IsTimely taken put
  Says input taken put t (Err WriteFault) = IfSome input.before (λ all. IsPrefix put (answer_to all).output)
  Says input taken put t (Err TooLong) = IsAnswer input.before (Err TooLong) put

  -- the input lost the bytes taken, no more than one past the limit, and the output gained those put, which are what
  -- the session makes of the input
  pub record Pumped (t : S) (input output : Side) (result : Result Unit Stop) : Type 0 where
    pub taken : List ℕ
    pub put : List ℕ
    pub few : earlier + length taken ≤ limit + 1
    pub reads : Consumes input.before input.behind taken
    pub writes : Appends output.before output.behind put
    pub says : Says input taken put t result
