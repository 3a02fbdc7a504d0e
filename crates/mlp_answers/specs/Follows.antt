-- A session that does a command's work.
use Rattle.std.specs.Prelude.{◌≡◌, ℕ, ◌<◌, ◌⊎◌, Bool, true, false, List, [], ◌∷◌, ◌++◌, length, Result, Ok, Err, None}
use Rattle.mlp_layout.specs.Streams.{UnitOf}
use Rattle.mlp_walk.specs.declared.refusal.Refusal.{Refusal as Declined}
use Rattle.mlp_walk.specs.Next.{Taken, next_of}
use Rattle.mlp_stream.specs.declared.refusal.Refusal.{Refusal}
use Rattle.mlp_stream.specs.Moves.{Move, Waits, Takes, Refuses}
use Rattle.mlp_answers.specs.Working.{Working, left_of}
use Rattle.mlp_answers.specs.Answers.{IsDecided}
use Rattle.mlp_answers.specs.Reading.{refusal_of, Reader}

module _ {S L O C : Type 0} (w : Working L O C) (Sums : List (UnitOf O C) → S → Type 0) where
  abbrev pub next_behind : List (UnitOf O C) → List ℕ → Result (Taken O C) Declined
  next_behind us bytes = next_of w.format w.wanted (length us) (left_of w us) bytes

  -- a refusal is that of the next unit, or of what would come out of it
  abbrev pub IsRefused : List (UnitOf O C) → List ℕ → Refusal → Type 0
  IsRefused us bytes r =
      ((e : Declined) × (next_behind us bytes ≡ Err e) × (r ≡ refusal_of e))
      ⊎ ((t : Taken O C) × (next_behind us bytes ≡ Ok t) × (w.out us t.unit ≡ Err r))

  -- it takes the next unit, of so many bytes, and this comes out of it
  pub record TakesNext (us : List (UnitOf O C)) (bytes : List ℕ) (n : ℕ) (out : List ℕ) (s : S) : Type 0 where
    pub taken : Taken O C
    pub next : next_behind us bytes ≡ Ok taken
    pub size : taken.size ≡ n
    pub gives : w.out us taken.unit ≡ Ok out
    pub sums : Sums (us ++ taken.unit ∷ []) s

  -- what a session that took these units does with the next bytes
  abbrev pub IsMoved : Bool → List (UnitOf O C) → List ℕ → Move S → Type 0
  IsMoved ended us bytes Waits = (ended ≡ false) × (w.is_open (left_of w us) bytes ≡ true)
  IsMoved ended us bytes (Takes n out s) = TakesNext us bytes n out s
  IsMoved ended us bytes (Refuses r) = IsDecided w ended us bytes × IsRefused us bytes r

  -- what it says at the end: where there was no unit, why there is none
  abbrev pub IsLast : List (UnitOf O C) → Result (List ℕ) Refusal → Type 0
  IsLast [] last = (e : Declined) × (next_behind [] [] ≡ Err e) × (last ≡ Err (refusal_of e))
  IsLast (u ∷ us) last = w.Ends (u ∷ us) last

  -- `Sums us s` ties a session to the units that it took
  pub record Follows (step : S → Bool → List ℕ → Move S) (last : S → Result (List ℕ) Refusal) : Type 0 where
    pub moves : (us : List (UnitOf O C)) (s : S) (ended : Bool) (bytes : List ℕ)
        → Sums us s → 0 < length bytes → IsMoved ended us bytes (step s ended bytes)
    pub ends : (us : List (UnitOf O C)) (s : S) → Sums us s → IsLast us (last s)

  -- ---- of a session that reads units by `read_step`

  -- what it gives of the next unit is what comes out of it
  abbrev pub IsGiven : List (UnitOf O C) → Taken O C → Result (List ℕ × S) Refusal → Type 0
  IsGiven us t (Ok x) = (w.out us t.unit ≡ Ok x.0) × Sums (us ++ t.unit ∷ []) x.1
  IsGiven us t (Err r) = w.out us t.unit ≡ Err r

  pub record ReadsOn (r : Reader S L O C) : Type 0 where
    pub left : (us : List (UnitOf O C)) (s : S) → Sums us s → r.left s ≡ left_of w us
    pub count : (us : List (UnitOf O C)) (s : S) → Sums us s → r.count s ≡ length us
    pub refusal : (us : List (UnitOf O C)) (s : S) → Sums us s → r.refusal s ≡ None
    pub given : (us : List (UnitOf O C)) (s : S) (bytes : List ℕ) (t : Taken O C)
        → Sums us s → next_behind us bytes ≡ Ok t → IsGiven us t (r.gives s t)
