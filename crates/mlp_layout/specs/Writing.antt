-- Writing bits behind others, up to as many as a writer takes.
use Rattle.std.specs.Prelude.{◌≡◌, ℕ, ◌+◌, ◌<◌, ◌≤◌, ◌^◌, List, [], Bool, true, false, ◌++◌, length, Result, OnOk, OnErr}
use Rattle.mlp_bits.specs.Bits.{bits}
use Rattle.mlp_layout.specs.Combined.{flag}

-- as many bits as a writer takes: those of 8190 bytes
abbrev pub room : ℕ
room = 65520

-- the text was appended, and had room
pub record Wrote (old new text : List Bool) : Type 0 where
  pub appended : new ≡ old ++ text
  pub fitted : length old + length text ≤ room

-- the text had no room, and its first bits were appended
pub record Filled (old new text : List Bool) : Type 0 where
  pub full : room < length old + length text
  pub front : List Bool
  pub back : List Bool
  pub text_is : text ≡ front ++ back
  pub appended : new ≡ old ++ front

-- what a function that writes this text did
pub record Writes {E : Type 0} (old new : List Bool) (result : Result (Unit {0}) E) (text : List Bool) : Type 0 where
  pub ok : OnOk result (Wrote old new text)
  pub err : OnErr result (Filled old new text)

-- a number and its width
abbrev pub FieldFits : ℕ × ℕ → Type 0
FieldFits field = (field.0 < 2 ^ field.1) × (field.1 ≤ 32)

abbrev pub field_bits : ℕ × ℕ → List Bool
field_bits field = bits field.1 field.0

-- what stands where a group gives nothing: its flag, where the group is there
abbrev pub absent_text : Bool → List Bool
absent_text true = flag.spelling false
absent_text false = []
