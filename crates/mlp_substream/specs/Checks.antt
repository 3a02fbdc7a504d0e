-- The two checks at the end of a segment, over the bits before them.
use Rattle.std.specs.Prelude.{ℕ, ◌-◌, nat_le, Bool, List, [], ◌∷◌, length, Option, Some, None, if◌then◌else◌}
use Rattle.mlp_syntax.specs.declared.fault.Field.TheVariants as rule
use Rattle.mlp_syntax.specs.declared.fault.Broken.{Broken}
use Rattle.mlp_layout.specs.Reading.{broken, short}
use Rattle.mlp_layout.specs.Tails.{parity_is, check_is}
use Rattle.mlp_bits.specs.Bits.{number}
use Rattle.mlp_bits.specs.Checks.{segment_parity_of, check8_of}

-- the bytes that the bits are
unfoldable pub bytes_of : List Bool → List ℕ
bytes_of (a ∷ b ∷ c ∷ d ∷ e ∷ f ∷ g ∷ h ∷ bits) =
    number (a ∷ b ∷ c ∷ d ∷ e ∷ f ∷ g ∷ h ∷ []) ∷ bytes_of bits
bytes_of bits = []

abbrev pub parity_of : List Bool → ℕ
parity_of bits = segment_parity_of (bytes_of bits)

abbrev pub check_of : List Bool → ℕ
check_of bits = check8_of (bytes_of bits)

-- the first of the rules on the checks that fails: that there are four bytes, the parity byte, the check byte
abbrev pub checks_fault : List Bool → Option Broken
checks_fault all =
    if nat_le 32 (length all) then
    if parity_is parity_of all then
    if check_is check_of all then None
    else Some (broken rule.SegmentCheck (length all - 8))
    else Some (broken rule.SegmentParity (length all - 16))
    else Some (short 0)
