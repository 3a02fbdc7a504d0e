-- What the laws of a decoder say.
use Rattle.std.specs.Prelude.{◌≡◌, ℕ, true, false, List, [], ◌∷◌, ◌++◌, length, Option, None}
use Rattle.mlp_bits.specs.Bits.{bits_of}
use Rattle.mlp_layout.specs.Streams.{IsNext, left_after}
use Rattle.mlp_walk.specs.Next.{next_of}
use Rattle.mlp_contents.specs.Units.{Left, Unit_of, start, whole}
use Rattle.mlp_present.specs.Decoding.{Held, opened, after_unit, after_units, is_open_behind}

-- ---- units

-- behind units a decoder that was opened for k holds what they leave and their number, and has refused nothing
pub record HoldsUnits (k : ℕ) (us : List Unit_of) (held : Held) : Type 0 where
  pub k_is : held.k ≡ k
  pub units_are : held.units ≡ length us
  pub left_is : held.left ≡ left_after (whole k) (start k) us
  pub none_refused : held.refusal ≡ None

-- one more unit
abbrev pub GoesOn : ℕ → List Unit_of → Unit_of → Type 0
GoesOn k us u = after_units (opened k) (us ++ u ∷ []) ≡ after_unit (after_units (opened k) us) u

-- ---- the test for more bytes

-- the test sees bits alone
abbrev pub ByBits : Left → List ℕ → List ℕ → Type 0
ByBits left xs ys = bits_of xs ≡ bits_of ys → is_open_behind left xs ≡ is_open_behind left ys

-- no unit stands where it is open
abbrev pub HasNone : ℕ → Left → List ℕ → Type 0
HasNone k left next =
    (u : Unit_of) → is_open_behind left next ≡ true → IsNext (whole k) left (bits_of next) u → ⊥

-- what is decided stays so with more bytes
abbrev pub Stays : Left → List ℕ → List ℕ → Type 0
Stays left next more = is_open_behind left next ≡ false → is_open_behind left (next ++ more) ≡ false

-- .. and these change nothing
abbrev pub IsSettled : ℕ → Left → List ℕ → List ℕ → Type 0
IsSettled k left next more =
    is_open_behind left next ≡ false
    → ((whole k).outer left).read (bits_of (next ++ more)) 0 ≡ ((whole k).outer left).read (bits_of next) 0

-- .. of all that comes of the next unit
abbrev pub NextStays : ℕ → Left → List ℕ → List ℕ → Type 0
NextStays k left next more =
    is_open_behind left next ≡ false → (wanted : Option ℕ) (number : ℕ)
    → next_of (whole k) wanted number left (next ++ more) ≡ next_of (whole k) wanted number left next
