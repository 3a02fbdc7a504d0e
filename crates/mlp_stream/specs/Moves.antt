-- One move of a session.
use Rattle.std.specs.Prelude.{◌≡◌, ℕ, ◌+◌, ◌<◌, ◌≤◌, ◌++◌, Bool, true, false, List, length, Result, Ok, Err}
use Rattle.mlp_stream.specs.Sizes.{most_of_unit}
use Rattle.mlp_stream.specs.declared.refusal.Refusal.{Refusal}

-- what a session of type S does next
pub data Move (S : Type 0) : Type 0 where
  -- it needs more bytes, or the end of the input
  Waits : Move S
  -- it takes so many bytes, these come out, and this session is left
  Takes : ℕ → List ℕ → S → Move S
  -- it refuses them
  Refuses : Refusal → Move S

-- by what a call answers, puts out and leaves
abbrev pub moved : {S : Type 0} → Result ℕ Refusal → List ℕ → S → Move S
moved (Ok n) out s = Takes n out s
moved (Err refusal) out s = Refuses refusal

-- by what a call answers and puts out
abbrev pub said : Result Unit Refusal → List ℕ → Result (List ℕ) Refusal
said (Ok _) out = Ok out
said (Err refusal) out = Err refusal

-- a session moves
abbrev pub IsMove : {S : Type 0} → Move S → Type 0
IsMove Waits = ⊥
IsMove (Takes n out s) = Unit {0}
IsMove (Refuses refusal) = Unit {0}

-- bytes are taken, no more than are there, and a unit is counted
abbrev pub TakesWithin : {S : Type 0} → (S → ℕ) → S → List ℕ → Move S → Type 0
TakesWithin count s next Waits = Unit {0}
TakesWithin count s next (Takes n out t) = (0 < n) × (n ≤ length next) × (count t ≡ count s + 1)
TakesWithin count s next (Refuses refusal) = Unit {0}

-- the laws of a session, at every value: a step guards itself against values that no session has
pub record IsSession {S : Type 0} (step : S → Bool → List ℕ → Move S) (count : S → ℕ) : Type 0 where
  -- more bytes don't change what it does
  pub settled : (s : S) (next more : List ℕ) (ended : Bool) → IsMove (step s false next)
      → step s ended (next ++ more) ≡ step s false next
  -- it doesn't wait once it has the most bytes of a unit, or the end was seen
  pub enough : (s : S) (next : List ℕ) → most_of_unit ≤ length next → IsMove (step s false next)
  pub ends : (s : S) (next : List ℕ) → 0 < length next → IsMove (step s true next)
  pub within : (s : S) (next : List ℕ) (ended : Bool) → TakesWithin count s next (step s ended next)
