-- Reading the outer parts of a stream's units, one after the other.
use Rattle.std.specs.Prelude.{ℕ, ◌+◌, ◌&&◌, Bool, take, List, is_none, Option, Some, None, Result, Ok, Err}
use Rattle.mlp_syntax.specs.declared.major.MajorSync.{MajorSync}
use Rattle.mlp_syntax.specs.declared.unit.Outer.{Outer}
use Rattle.mlp_unit.specs.AccessUnit.{AccessUnit, in_force}
use Rattle.mlp_unit.specs.Shape.{unit_with}
use Rattle.mlp_unit.specs.Outline.{outline}
use Rattle.mlp_walk.specs.declared.refusal.Refusal.{Refusal}
use Rattle.mlp_walk.specs.Next.{Taken, next_of}
use Rattle.mlp_outline.specs.Next.{is_open}

-- what a reader of outer parts knows: the number of units it took, the stream's first major sync, and what it refused
pub record Outlined : Type 0 where
  pub units : ℕ
  pub first : Option MajorSync
  pub refusal : Option Refusal

abbrev pub nothing_read : Outlined
nothing_read = record { units = 0; first = None; refusal = None }

abbrev pub Next : Type 0
Next = Result (Taken AccessUnit (Unit {0})) Refusal

abbrev pub unless_refused : Option Refusal → Next → Next
unless_refused None next = next
unless_refused (Some refusal) next = Err refusal

-- what comes of the next unit: behind a refusal the same one
abbrev pub next_outline : Outlined → List ℕ → Next
next_outline held next = unless_refused held.refusal (next_of outline None held.units held.first next)

-- a unit of so many of these bytes with this outer part, or what is refused
abbrev pub outlined_of : List ℕ → Result (ℕ × Outer) Refusal → Next
outlined_of next (Ok x) =
    Ok (record { size = x.0; unit = record { outer = unit_with (take x.0 next) x.1; contents = tt } })
outlined_of next (Err refusal) = Err refusal

-- what it knows by what came of the next unit
abbrev pub after_outline : Outlined → Next → Outlined
after_outline held (Ok t) =
    record { units = held.units + 1; first = in_force held.first t.unit.outer.major; refusal = held.refusal }
after_outline held (Err refusal) = record { units = held.units; first = held.first; refusal = Some refusal }

-- behind a refusal nothing is waited for
abbrev pub waits : Outlined → List ℕ → Bool
waits held next = is_none held.refusal && is_open next
