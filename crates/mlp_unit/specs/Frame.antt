-- Where the next unit of a stream ends.
use Rattle.std.specs.Prelude.{ℕ, ◌*◌, nat_le, List, length, Result, Ok, Err, if◌then◌else◌}
use Rattle.mlp_syntax.specs.declared.fault.Broken.{Broken}
use Rattle.mlp_syntax.specs.declared.fault.Field.TheVariants.{UnitLength}
use Rattle.mlp_syntax.specs.declared.unit.UnitHead.{UnitHead}
use Rattle.mlp_bits.specs.Bits.{bits_of}
use Rattle.mlp_layout.specs.Reading.{Read, broken}
use Rattle.mlp_unit.specs.AccessUnit.{head}

-- the bytes of the unit with this head, where they are all there
abbrev pub framed : ℕ → Read UnitHead → Result ℕ Broken
framed left (Err e) = Err e
framed left (Ok h) = if nat_le (2 * h.0.words) left then Ok (2 * h.0.words) else Err (broken UnitLength 4)

-- the bytes of the unit at the front of these
abbrev pub frame_of : List ℕ → Result ℕ Broken
frame_of next = framed (length next) (head.read (bits_of next) 0)
