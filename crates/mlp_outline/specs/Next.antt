-- Where the next unit of a stream ends.
use Rattle.std.specs.Prelude.{◌≡◌, ℕ, ◌*◌, nat_le, nat_lt, ◌&&◌, ◌||◌, Bool, true, false, List, ◌++◌, length, take, drop, Option}
use Rattle.mlp_syntax.specs.declared.major.MajorSync.{MajorSync}
use Rattle.mlp_bits.specs.Bits.{bits_of, number}
use Rattle.mlp_layout.specs.Layout.{Found}
use Rattle.mlp_unit.specs.AccessUnit.{AccessUnit, access_unit}
use Rattle.mlp_unit.specs.Shape.{unit_read}

-- the length in words that the first bytes tell
abbrev pub words_of : List ℕ → ℕ
words_of bytes = number (take 12 (drop 4 (bits_of bytes)))

-- does the next unit depend on bytes behind these? There are fewer than four, or fewer than a length of two words at
-- least says
abbrev pub is_open : List ℕ → Bool
is_open bytes = nat_lt (length bytes) 4 || (nat_le 2 (words_of bytes) && nat_lt (length bytes) (2 * words_of bytes))

-- where it doesn't, the same is read whatever follows
abbrev pub ClosedIsDecided : Option MajorSync → List ℕ → Type 0
ClosedIsDecided first next =
    is_open next ≡ false → (more : List ℕ) → unit_read first (next ++ more) ≡ unit_read first next

-- where it does, no unit stands at their front
abbrev pub OpenHasNone : Option MajorSync → List ℕ → Type 0
OpenHasNone first next =
    is_open next ≡ true → (u : AccessUnit) → Found (access_unit first) (bits_of next) 0 u → ⊥

-- the test sees bits alone
abbrev pub OpenByBits : List ℕ → List ℕ → Type 0
OpenByBits xs ys = bits_of xs ≡ bits_of ys → is_open xs ≡ is_open ys

-- what is decided stays so with more bytes
abbrev pub ClosedStays : List ℕ → List ℕ → Type 0
ClosedStays next more = is_open next ≡ false → is_open (next ++ more) ≡ false
