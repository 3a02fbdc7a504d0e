-- The step of a session that reads units.
use Rattle.std.specs.Prelude.{◌≡◌, ℕ, ◌+◌, Bool, not, ◌&&◌, if◌then◌else◌, List, Result, Ok, Err, Option, Some, None}
use Rattle.mlp_layout.specs.Streams.{Format}
use Rattle.mlp_walk.specs.declared.refusal.Refusal.{Refusal as Declined}
use Rattle.mlp_walk.specs.declared.refusal.Refusal.TheVariants as declined
use Rattle.mlp_walk.specs.Next.{Taken, next_of}
use Rattle.mlp_stream.specs.declared.refusal.Refusal.{Refusal}
use Rattle.mlp_stream.specs.declared.refusal.Refusal.TheVariants as refused
use Rattle.mlp_syntax.specs.declared.fault.Field.TheVariants.{UnitHeader}
use Rattle.mlp_stream.specs.Moves.{Move, Waits, Takes, Refuses}

-- what is refused of a stream, as a session refuses it
abbrev pub refusal_of : Declined → Refusal
refusal_of (declined.Fault fault) = refused.Fault fault
refusal_of (declined.NoPresentation have) = refused.NoPresentation have

-- no bytes have no unit: a stream has one at least
abbrev pub no_unit : Refusal
no_unit = refused.Fault (record { unit = 0; substream = 0; field = UnitHeader; bit = 0 })

-- a session that reads units: what they left, their number, the refusal if one came, and by the next unit what comes
-- out and the session then
pub record Reader (S L O C : Type 0) : Type 0 where
  pub left : S → L
  pub count : S → ℕ
  pub refusal : S → Option Refusal
  pub gives : S → Taken O C → Result (List ℕ × S) Refusal

module _ {S L O C : Type 0} (f : Format L O C) (wanted : Option ℕ) (is_open : L → List ℕ → Bool)
    (r : Reader S L O C) where
  abbrev pub on_given : ℕ → Result (List ℕ × S) Refusal → Move S
  on_given size (Ok x) = Takes size x.0 x.1
  on_given size (Err refusal) = Refuses refusal

  abbrev pub on_next : S → Result (Taken O C) Declined → Move S
  on_next s (Ok t) = on_given t.size (r.gives s t)
  on_next s (Err e) = Refuses (refusal_of e)

  abbrev pub unless_refused : Option Refusal → Move S → Move S
  unless_refused None move = move
  unless_refused (Some refusal) move = Refuses refusal

  -- what it does with these bytes, where they are all that is left (true) or may go on (false)
  unfoldable pub read_step : S → Bool → List ℕ → Move S
  read_step s ended bytes =
      let next = on_next s (next_of f wanted (r.count s) (r.left s) bytes) in
      unless_refused (r.refusal s) (if not ended && is_open (r.left s) bytes then Waits else next)

  -- each unit is counted
  pub record IsReader : Type 0 where
    pub counts : (s t : S) (u : Taken O C) (out : List ℕ)
        → r.gives s u ≡ Ok (out, t) → r.count t ≡ r.count s + 1
