-- The outer part of a unit beside its bytes, and the ranges of its segments.
use Rattle.std.specs.Prelude.{◌≡◌, ℕ, zero, suc, ◌+◌, ◌-◌, ◌*◌, ◌/◌, ◌≤◌, Bool, List, [], ◌∷◌, Option, None, Result, Ok, Err, length, take, drop}
use Rattle.mlp_syntax.specs.declared.major.MajorSync.{MajorSync}
use Rattle.mlp_syntax.specs.declared.unit.DirEntry.{DirEntry}
use Rattle.mlp_syntax.specs.declared.unit.UnitHead.{UnitHead}
use Rattle.mlp_syntax.specs.declared.unit.Outer.{Outer}
use Rattle.mlp_syntax.specs.declared.fault.Broken.{Broken}
use Rattle.mlp_bits.specs.Bits.{bits_of}
use Rattle.mlp_layout.specs.Reading.{Read}
use Rattle.mlp_unit.specs.Directory.{directory_size}
use Rattle.mlp_unit.specs.AccessUnit.{AccessUnit, access_unit, in_force, substreams_of, major_size, first_bad_end}

-- the byte at which the segments begin
abbrev pub body_place : AccessUnit → ℕ
body_place u = 4 + major_size u.major + directory_size u.entries

-- a unit of these bytes with these parts, whose segments begin at this byte
abbrev pub unit_of : List ℕ → UnitHead → Option MajorSync → List DirEntry → ℕ → AccessUnit
unit_of bytes head major entries body = record { head = head; major = major; entries = entries; body = drop body bytes }

-- a unit of these bytes with this outer part
abbrev pub unit_with : List ℕ → Outer → AccessUnit
unit_with bytes o = unit_of bytes o.head o.major o.entries.items o.body

-- the end of an entry, 0 where it isn't there
abbrev pub end_at : List DirEntry → ℕ → ℕ
end_at [] j = 0
end_at (e ∷ es) zero = e.end
end_at (e ∷ es) (suc j) = end_at es j

-- the end before an entry, 0 before the first
abbrev pub end_before : List DirEntry → ℕ → ℕ
end_before es zero = 0
end_before es (suc j) = end_at es j

-- the first byte of a segment, and the byte past its last
abbrev pub range_of : Outer → ℕ → ℕ × ℕ
range_of o j = (o.body + 2 * end_before o.entries.items j, o.body + 2 * end_at o.entries.items j)

-- the entries are as many as the stream's first major sync, which may be this unit's, tells
abbrev pub HasCount : Option MajorSync → Outer → Type 0
HasCount first o = length o.entries.items ≡ substreams_of (in_force first o.major)

-- the segments lie in the unit's bytes: their ends don't fall, and none is past the last word
pub record HoldsSegments (bytes : List ℕ) (o : Outer) : Type 0 where
  pub body : o.body ≤ length bytes
  pub ends : first_bad_end 0 ((length bytes - o.body) / 2) 0 o.entries.items ≡ None

-- the bits of a segment, of those of the unit
abbrev pub segment_bits : List ℕ → Outer → ℕ → List Bool
segment_bits bytes o j =
    let es = o.entries.items in
    take (16 * (end_at es j - end_before es j)) (drop (8 * (o.body + 2 * end_before es j)) (bits_of bytes))

-- what is read of a unit, or of the front of these bytes
abbrev pub unit_read : Option MajorSync → List ℕ → Read AccessUnit
unit_read first bytes = (access_unit first).read (bits_of bytes) 0

-- this outer part is what is read of a unit, or this fault
abbrev pub GivesOuter : Option MajorSync → List ℕ → Result Outer Broken → Type 0
GivesOuter first bytes (Ok o) = unit_read first bytes ≡ Ok (unit_with bytes o, 8 * length bytes)
GivesOuter first bytes (Err e) = unit_read first bytes ≡ Err e

-- a unit of so many bytes with this outer part is what is read at the front of these, or this fault
abbrev pub GivesNext : Option MajorSync → List ℕ → Result (ℕ × Outer) Broken → Type 0
GivesNext first bytes (Ok x) = unit_read first bytes ≡ Ok (unit_with (take x.0 bytes) x.1, 8 * x.0)
GivesNext first bytes (Err e) = unit_read first bytes ≡ Err e
