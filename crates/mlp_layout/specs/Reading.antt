-- Bits at a place, and reading from a place up to the first fault.
use Rattle.std.specs.Prelude.{◌≡◌, ℕ, ◌+◌, ◌≤◌, Bool, List, ◌++◌, length, take, drop, Result, Ok, Err, nat_le, if◌then◌else◌}
use Rattle.mlp_syntax.specs.declared.fault.Field.{Field}
use Rattle.mlp_syntax.specs.declared.fault.Field.TheVariants.{SegmentShort}
use Rattle.mlp_syntax.specs.declared.fault.Broken.{Broken}
use Rattle.mlp_bits.specs.Bits.{number}
use Rattle.mlp_bits.specs.Cursor.{Cursor}

-- the text stands at this place
pub record Stands (all : List Bool) (place : ℕ) (text : List Bool) : Type 0 where
  pub within : place + length text ≤ length all
  pub text_is : take (length text) (drop place all) ≡ text

-- a value and the place behind it, or the first fault
abbrev pub Read : Type 0 → Type 0
Read A = Result (A × ℕ) Broken

infixl 10 ◌>>=◌
abbrev pub ◌>>=◌ : {A B : Type 0} → Read A → (A × ℕ → Read B) → Read B
(Ok x) >>= f = f x
(Err e) >>= f = Err e

-- what was read before, and what is read now
abbrev pub with_front : {A : Type 0} → List A → Read (List A) → Read (List A)
with_front front read = read >>= λ x. Ok (front ++ x.0, x.1)

abbrev pub broken : Field → ℕ → Broken
broken field place = record { field = field; bit = place }

-- the fault of a number whose bits aren't all there
abbrev pub short : ℕ → Broken
short place = broken SegmentShort place

-- a number of so many bits
unfoldable pub number_at : ℕ → List Bool → ℕ → Read ℕ
number_at width all place =
    if nat_le (place + width) (length all)
    then Ok (number (take width (drop place all)), place + width) else Err (short place)

-- what a function returned is what reading gives, and the reader stands behind it
abbrev pub Gives : {X Y : Type 0} → (X → Y) → Cursor → Cursor → Result X Broken → Read Y → Type 0
Gives view old new (Ok x) read = (read ≡ Ok (view x, new.place)) × (new.all ≡ old.all) × (old.place ≤ new.place)
Gives view old new (Err e) read = read ≡ Err e
