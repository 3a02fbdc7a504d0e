-- All units of a stream.
use Rattle.std.specs.Prelude.{ℕ, ◌==◌, ◌&&◌, Bool, List, [], ◌∷◌, length, Result, Ok, Err, ℤ}
use Rattle.mlp_syntax.specs.declared.refusal.NoRoom.{NoRoom}
use Rattle.mlp_encode.specs.Left.{Left}
use Rattle.mlp_encode.specs.Unit.{next_sent}

-- the units sent, and the first one without a place, if there is one
pub record Stream : Type 0 where
  pub units : List (List ℕ)
  pub end : Result Left NoRoom

abbrev pub with_unit : List ℕ → Stream → Stream
with_unit unit s = record { units = unit ∷ s.units; end = s.end }

-- of the frames of each unit; the last of them is the stream's where `ended`
abbrev pub sent : Bool → Left → List (List (List ℤ)) → Stream
sent ended left [] = record { units = []; end = Ok left }
sent ended left (frames ∷ more) =
    elim (next_sent left frames (ended && (length more == 0)))
    [ Ok x ↦ with_unit x.0 (sent ended x.1 more) | Err e ↦ record { units = []; end = Err e } ]
