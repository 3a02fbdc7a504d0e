-- What a command makes of an input.
use Rattle.std.specs.Prelude.{◌≡◌, ℕ, ◌<◌, ◌≤◌, ◌⊎◌, Bool, true, false, List, [], ◌∷◌, ◌++◌, length, take, Result, Ok, Err}
use Rattle.mlp_io.specs.Limit.{limit}
use Rattle.mlp_syntax.specs.declared.fault.Fault.{Fault}
use Rattle.mlp_layout.specs.Streams.{UnitOf}
use Rattle.mlp_walk.specs.Meaning as walk
use Rattle.mlp_stream.specs.declared.refusal.Refusal.{Refusal}
use Rattle.mlp_stream.specs.declared.refusal.Refusal.TheVariants as refused
use Rattle.mlp_stream.specs.declared.stop.Stop.{Stop}
use Rattle.mlp_stream.specs.declared.stop.Stop.TheVariants.{Refused, TooLong}
use Rattle.mlp_answers.specs.Working.{Working, left_of}

abbrev pub refusing : Refusal → Result Unit Stop
refusing r = Err (Refused r)

module _ {L O C : Type 0} (w : Working L O C) where
  -- what comes out of these units, behind those before
  unfoldable pub Gives : List (UnitOf O C) → List (UnitOf O C) → List ℕ → Type 0
  Gives before [] output = output ≡ []
  Gives before (u ∷ us) output =
      (xs ys : List ℕ) × (w.out before u ≡ Ok xs) × Gives (before ++ u ∷ []) us ys × (output ≡ xs ++ ys)

  abbrev pub HasTaken : List ℕ → List (UnitOf O C) → List ℕ → Type 0
  HasTaken bytes us rest = walk.HasTaken w.format w.start w.wanted bytes us rest

  abbrev pub AreUnits : List ℕ → List (UnitOf O C) → Type 0
  AreUnits bytes us = walk.AreUnits w.format w.start w.wanted bytes us

  abbrev pub Fail : List ℕ → Fault → Type 0
  Fail bytes fault = walk.Fail w.format w.start w.wanted bytes fault

  abbrev pub Lack : List ℕ → ℕ → Type 0
  Lack bytes have = walk.Lack w.format w.start w.wanted bytes have

  -- these units begin the bytes and let this come out
  pub record Worked (bytes : List ℕ) (us : List (UnitOf O C)) (rest output : List ℕ) : Type 0 where
    pub taken : HasTaken bytes us rest
    pub gives : Gives [] us output

  -- no more bytes come, or they change nothing of the next unit
  abbrev pub IsDecided : Bool → List (UnitOf O C) → List ℕ → Type 0
  IsDecided ended us rest = (ended ≡ true) ⊎ (w.is_open (left_of w us) rest ≡ false)

  -- the end and the output, where the bytes are all (true) or may go on (false)
  pub data Answers (ended : Bool) (bytes : List ℕ) : Result Unit Stop → List ℕ → Type 0 where
    -- the bytes are units, and what comes out at the end
    finished : {output : List ℕ} (us : List (UnitOf O C)) (xs ys : List ℕ) → ended ≡ true
        → AreUnits bytes us → Gives [] us xs → w.Ends us (Ok ys) → output ≡ xs ++ ys
        → Answers ended bytes (Ok tt) output
    -- .. or why the end is refused
    unfinished : {output : List ℕ} (us : List (UnitOf O C)) (r : Refusal) → ended ≡ true
        → AreUnits bytes us → Gives [] us output → w.Ends us (Err r) → Answers ended bytes (refusing r) output
    -- the next unit has this fault
    breaks : {output : List ℕ} (us : List (UnitOf O C)) (rest : List ℕ) (fault : Fault)
        → Worked bytes us rest output
        → length us ≡ fault.unit → Fail bytes fault → IsDecided ended us rest
        → Answers ended bytes (refusing (refused.Fault fault)) output
    -- the first unit doesn't tell the presentation
    lacks : (have : ℕ) → Lack bytes have → IsDecided ended [] bytes
        → Answers ended bytes (refusing (refused.NoPresentation have)) []
    -- the next unit is refused for what would come out
    refuses : {output : List ℕ} (us : List (UnitOf O C)) (rest more : List ℕ) (u : UnitOf O C) (r : Refusal)
        → Worked bytes us rest output → HasTaken bytes (us ++ u ∷ []) more → w.out us u ≡ Err r
        → Answers ended bytes (refusing r) output
    -- the next unit depends on bytes that may come
    waits : {output : List ℕ} (us : List (UnitOf O C)) (rest : List ℕ)
        → ended ≡ false → Worked bytes us rest output
        → w.is_open (left_of w us) rest ≡ true → Answers ended bytes (Err TooLong) output

  -- the answer to an input: past the limit nothing is looked at
  pub record Answer (all : List ℕ) (end : Result Unit Stop) (output : List ℕ) : Type 0 where
    pub within : length all ≤ limit → Answers true all end output
    pub past : limit < length all → Answers false (take limit all) end output

  -- what the bytes say for sure, however they go on
  pub record Soon (bytes output : List ℕ) : Type 0 where
    pub end : Result Unit Stop
    pub is : Answers false bytes end output

  -- an end and an output, and no other
  pub record HasOneAnswer (all : List ℕ) : Type 0 where
    pub some : (end : Result Unit Stop) × (output : List ℕ) × Answer all end output
    pub one : (e f : Result Unit Stop) (xs ys : List ℕ)
        → Answer all e xs → Answer all f ys → (e ≡ f) × (xs ≡ ys)
