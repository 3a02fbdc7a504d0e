-- What a session makes of a whole input.
use Rattle.std.specs.Prelude.{◌≡◌, ℕ, zero, suc, nat_le, if◌then◌else◌, ◌++◌, Bool, true, false, List, [], ◌∷◌, length, take, drop, Result, Ok, Err}
use Rattle.mlp_stream.specs.declared.refusal.Refusal.{Refusal}
use Rattle.mlp_stream.specs.declared.stop.Stop.{Stop}
use Rattle.mlp_stream.specs.declared.stop.Stop.TheVariants.{Refused, TooLong}
use Rattle.mlp_stream.specs.Moves.{Move, Waits, Takes, Refuses}

-- xs begin ys
abbrev pub IsPrefix : List ℕ → List ℕ → Type 0
IsPrefix xs ys = (rest : List ℕ) × (ys ≡ xs ++ rest)

-- how it ends, all that comes out, and the session that is left, which no later unit moved
pub record Outcome (S : Type 0) : Type 0 where
  pub end : Result Unit Stop
  pub output : List ℕ
  pub session : S

abbrev pub after : {S : Type 0} → List ℕ → Outcome S → Outcome S
after out o = record { end = o.end; output = out ++ o.output; session = o.session }

abbrev pub stopped : {S : Type 0} → S → Stop → Outcome S
stopped s stop = record { end = Err stop; output = []; session = s }

abbrev pub finished : {S : Type 0} → S → Result (List ℕ) Refusal → Outcome S
finished s (Ok out) = record { end = Ok tt; output = out; session = s }
finished s (Err refusal) = stopped s (Refused refusal)

module _ {S : Type 0} (step : S → Bool → List ℕ → Move S) (last : S → Result (List ℕ) Refusal) where
  abbrev pub at_end : Bool → S → Outcome S
  at_end true s = finished s (last s)
  at_end false s = stopped s TooLong

  abbrev pub on_move : (S → List ℕ → Outcome S) → S → List ℕ → Move S → Outcome S
  on_move go s bytes Waits = stopped s TooLong
  on_move go s bytes (Takes n out t) = after out (go t (drop n bytes))
  on_move go s bytes (Refuses refusal) = stopped s (Refused refusal)

  -- at most so many moves
  unfoldable pub run_for : ℕ → Bool → S → List ℕ → Outcome S
  run_for zero ended s bytes = stopped s TooLong
  run_for (suc turns) ended s [] = at_end ended s
  run_for (suc turns) ended s (b ∷ bytes) =
      on_move (λ t rest. run_for turns ended t rest) s (b ∷ bytes) (step s ended (b ∷ bytes))

  -- all that a session does with these bytes, where they are all (true) or may go on (false)
  unfoldable pub outcome : Bool → S → List ℕ → Outcome S
  outcome ended s bytes = run_for (suc (length bytes)) ended s bytes

  -- what comes out for sure, however the bytes go on
  abbrev pub soon : S → List ℕ → List ℕ
  soon s bytes = (outcome false s bytes).output

  -- the answer to an input of which at most so many bytes are looked at
  abbrev pub answer : ℕ → S → List ℕ → Outcome S
  answer most s bytes = if nat_le (length bytes) most then outcome true s bytes else outcome false s (take most bytes)
