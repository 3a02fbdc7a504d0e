-- The next unit of a stream of any format: what is read of it, or why it is refused.
use Rattle.std.specs.Prelude.{◌≡◌, ℕ, ◌*◌, ◌/◌, ◌==◌, nat_le, if◌then◌else◌}
use Rattle.std.specs.Prelude.{List, length, Result, Ok, Err, Option, Some, None}
use Rattle.mlp_syntax.specs.declared.fault.Fault.{Fault}
use Rattle.mlp_bits.specs.Bits.{bits_of}
use Rattle.mlp_layout.specs.Reading.{Read}
use Rattle.mlp_layout.specs.Contents.{UnitFault}
use Rattle.mlp_layout.specs.Streams.{Format, UnitOf, read_unit}
use Rattle.mlp_walk.specs.declared.refusal.Refusal.{Refusal}
use Rattle.mlp_walk.specs.declared.refusal.Refusal.TheVariants as refused

-- its length in bytes, and what was read
pub record Taken (O C : Type 0) : Type 0 where
  pub size : ℕ
  pub unit : UnitOf O C

-- a fault of the unit of this number
abbrev pub fault_of : ℕ → UnitFault → Fault
fault_of number e = record { unit = number; substream = e.substream; field = e.field; bit = e.bit }

-- the presentation that is asked for, in the first unit alone
abbrev pub asked : Option ℕ → ℕ → Option ℕ
asked wanted number = if number == 0 then wanted else None

module _ {L O C : Type 0} (f : Format L O C) where
  -- by what was read of the unit of this number
  abbrev pub numbered : ℕ → Result (UnitOf O C × ℕ) UnitFault → Result (Taken O C) Refusal
  numbered number (Ok u) = Ok (record { size = u.1 / 8; unit = u.0 })
  numbered number (Err e) = Err (refused.Fault (fault_of number e))

  -- a presentation that the first unit's outer part doesn't tell is refused before what the unit contains is looked at
  abbrev pub gated : Option ℕ → Read O → Result (Taken O C) Refusal → Result (Taken O C) Refusal
  gated None o unit = unit
  gated (Some k) (Err e) unit = unit
  gated (Some k) (Ok o) unit =
      if nat_le (f.presentations o.0) k then Err (refused.NoPresentation (f.presentations o.0)) else unit

  -- what comes of the next unit of these bytes, behind so many units and what they leave
  unfoldable pub next_of : Option ℕ → ℕ → L → List ℕ → Result (Taken O C) Refusal
  next_of wanted number left bytes =
      let unit = numbered number (read_unit f left (bits_of bytes)) in
      gated (asked wanted number) ((f.outer left).read (bits_of bytes) 0) unit

  -- a unit has whole bytes
  pub record TakesBytes : Type 0 where
    pub whole : (left : L) (o : O) → (f.outer left).Fits o
        → (n : ℕ) × (length ((f.outer left).spelling o) ≡ 8 * n)
