-- A command that reads the units of a stream.
use Rattle.std.specs.Prelude.{◌≡◌, ℕ, ◌≤◌, Bool, true, false, List, [], ◌++◌, length, Result, Option}
use Rattle.mlp_bits.specs.Bits.{bits_of}
use Rattle.mlp_layout.specs.Streams.{Format, UnitOf, IsNext, IsFormat, left_after}
use Rattle.mlp_walk.specs.Next.{TakesBytes}
use Rattle.mlp_stream.specs.declared.refusal.Refusal.{Refusal}
use Rattle.mlp_stream.specs.Sizes.{most_of_unit}

-- the format of its units, what is left before the first, and the presentation that it asks for
pub record Working (L O C : Type 0) : Type 1 where
  pub format : Format L O C
  pub start : L
  pub wanted : Option ℕ
  -- does the next unit depend on bytes behind these?
  pub is_open : L → List ℕ → Bool
  -- what comes out of a unit behind others, or why it is refused
  pub out : List (UnitOf O C) → UnitOf O C → Result (List ℕ) Refusal
  -- what comes out at the end, behind all units
  pub Ends : List (UnitOf O C) → Result (List ℕ) Refusal → Type 0

-- what units leave
abbrev pub left_of : {L O C : Type 0} → Working L O C → List (UnitOf O C) → L
left_of w us = left_after w.format w.start us

-- ---- what a command owes

-- the test depends on the bits alone; there is none where no byte is, and one of 8190 bytes is decided
pub record IsOpenTest {L O C : Type 0} (f : Format L O C) (is_open : L → List ℕ → Bool) : Type 0 where
  pub by_bits : (left : L) (xs ys : List ℕ) → bits_of xs ≡ bits_of ys → is_open left xs ≡ is_open left ys
  pub none : (left : L) → is_open left [] ≡ true
  pub enough : (left : L) (bytes : List ℕ) → most_of_unit ≤ length bytes → is_open left bytes ≡ false
  -- no unit stands where it is open
  pub no_unit : (left : L) (bytes : List ℕ) (u : UnitOf O C)
      → is_open left bytes ≡ true → IsNext f left (bits_of bytes) u → ⊥
  -- where it isn't, more bytes change nothing
  pub stays : (left : L) (bytes more : List ℕ)
      → is_open left bytes ≡ false → is_open left (bytes ++ more) ≡ false
  pub settled : (left : L) (bytes more : List ℕ) → is_open left bytes ≡ false
      → (f.outer left).read (bits_of (bytes ++ more)) 0 ≡ (f.outer left).read (bits_of bytes) 0

-- the format is lawful, and units end in one way
pub record IsWorking {L O C : Type 0} (w : Working L O C) : Type 0 where
  pub format_is : IsFormat w.format
  pub takes_bytes : TakesBytes w.format
  pub open_is : IsOpenTest w.format w.is_open
  pub some_end : (us : List (UnitOf O C)) → (r : Result (List ℕ) Refusal) × w.Ends us r
  pub one_end : (us : List (UnitOf O C)) (q r : Result (List ℕ) Refusal) → w.Ends us q → w.Ends us r → q ≡ r
