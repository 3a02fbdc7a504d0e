-- The parts of taking a unit: its outer part, whether it tells the presentation, and what it contains.
use Rattle.std.specs.Prelude.{◌≡◌, ℕ, ◌==◌, ◌*◌, ◌<◌, ◌≤◌, nat_le, ◌&&◌, not, Bool, true, false, List, length, take, min, Option, Some, None, IfSome, Result, Ok, Err, ◌⊎◌, ℤ}
use Rattle.mlp_syntax.specs.declared.fault.Broken.{Broken}
use Rattle.mlp_syntax.specs.declared.fault.Field.TheVariants as rule
use Rattle.mlp_syntax.specs.declared.major.MajorSync.{MajorSync}
use Rattle.mlp_syntax.specs.declared.segment.Segment.{Segment}
use Rattle.mlp_syntax.specs.declared.unit.Outer.{Outer}
use Rattle.mlp_bits.specs.Bits.{bits_of}
use Rattle.mlp_layout.specs.Reading.{Read}
use Rattle.mlp_layout.specs.Layout.{tested}
use Rattle.mlp_layout.specs.Contents.{UnitFault}
use Rattle.mlp_layout.specs.Streams.{outer_fault}
use Rattle.mlp_major.specs.MajorSync.{IsUsable}
use Rattle.mlp_unit.specs.AccessUnit.{AccessUnit, access_unit, in_force, substreams_of}
use Rattle.mlp_unit.specs.Shape.{unit_with, body_place, HasCount, HoldsSegments}
use Rattle.mlp_unit.specs.Written.{FirstUsable}
use Rattle.mlp_walk.specs.declared.refusal.Refusal.{Refusal}
use Rattle.mlp_walk.specs.declared.refusal.Refusal.TheVariants as refused
use Rattle.mlp_walk.specs.Next.{Taken, fault_of, next_of}
use Rattle.mlp_contents.specs.Units.{Unit_of, whole, after, frames_out}
use Rattle.mlp_contents.specs.Inner.{Inner, left_of, IsKept, IsTaken}

-- ---- the outer part

-- what is read of it, behind a terminator or not
abbrev pub outer_read : Bool → Option MajorSync → List ℕ → Read AccessUnit
outer_read ended first next = (tested rule.AfterEnd (not ended) (access_unit first)).read (bits_of next) 0

-- it is that of a unit of so many bytes, with this record
pub record HasOuter (ended : Bool) (first : Option MajorSync) (next : List ℕ) (size : ℕ) (o : Outer) : Type 0 where
  pub read : outer_read ended first next ≡ Ok (unit_with (take size next) o, 8 * size)
  pub some : 4 ≤ size
  pub small : size ≤ 8190
  pub there : size ≤ length next
  pub body : o.body ≡ body_place (unit_with (take size next) o)
  pub count : HasCount first o
  pub inside : HoldsSegments (take size next) o
  pub usable : IfSome o.major IsUsable

-- it breaks a rule
abbrev pub BreaksOuter : Bool → ℕ → Option MajorSync → List ℕ → Refusal → Type 0
BreaksOuter ended number first next refusal =
    (b : Broken) × (outer_read ended first next ≡ Err b)
    × (refusal ≡ refused.Fault (fault_of number (outer_fault b)))

-- ---- what the unit contains

-- the first unit has no such presentation
abbrev pub is_missing : ℕ → ℕ → ℕ → Bool
is_missing number have k = number == 0 && nat_le have k

abbrev pub presentations_of : Option MajorSync → ℕ
presentations_of major = min 3 (substreams_of major)

-- before a unit: the presentation exists, and what units leave fits the stream
pub record IsReady (number : ℕ) (first : Option MajorSync) (inner : Inner) : Type 0 where
  pub usable : FirstUsable first
  pub begins : number ≡ 0 → first ≡ None
  pub told : 0 < number → inner.last < substreams_of first
  pub kept : IsKept first inner

-- the presentation isn't there, or what the unit contains breaks a rule
abbrev pub BreaksInside : ℕ → Option MajorSync → Inner → AccessUnit → List Bool → Refusal → Type 0
BreaksInside number first x o text refusal =
    let have = presentations_of o.major in
    ((is_missing number have x.last ≡ true) × (refusal ≡ refused.NoPresentation have))
    ⊎ ((is_missing number have x.last ≡ false) × ((d : UnitFault)
    × (((whole x.last).contents (left_of first x) o).read text ≡ Err d)
    × (refusal ≡ refused.Fault (fault_of number d))))

-- what it contains is read and played
pub record TakesInside (number : ℕ) (first : Option MajorSync) (o : AccessUnit) (text : List Bool)
    (old new : Inner) (frames : List (List ℤ)) : Type 0 where
  pub there : is_missing number (presentations_of o.major) old.last ≡ false
  pub taken : IsTaken first o text old new frames
  pub exists : old.last < substreams_of (in_force first o.major)
  pub kept : IsKept (in_force first o.major) new

-- ---- the whole unit

abbrev pub Next : Type 0
Next = Result (Taken AccessUnit (List Segment)) Refusal

-- what comes of the next unit, behind so many, this first major sync and what else they leave
abbrev pub next_behind : ℕ → Option MajorSync → Inner → List ℕ → Next
next_behind number first x next = next_of (whole x.last) (Some x.last) number (left_of first x) next

-- it is that of so many bytes with this outer part; these are its frames, and this is left of it
pub record TakesUnit (number : ℕ) (first : Option MajorSync) (next : List ℕ) (size : ℕ) (o : AccessUnit)
    (old new : Inner) (frames : List (List ℤ)) : Type 0 where
  pub unit : Unit_of
  pub outer_is : unit.outer ≡ o
  pub next_is : next_behind number first old next ≡ Ok (record { size = size; unit = unit })
  pub frames_are : frames ≡ frames_out old.last (left_of first old) unit
  pub left_is : left_of (in_force first o.major) new ≡ after old.last (left_of first old) unit
  pub exists : old.last < substreams_of (in_force first o.major)
  pub kept : IsKept (in_force first o.major) new
