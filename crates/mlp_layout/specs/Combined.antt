-- Layouts made of the simple ones.
use Rattle.std.specs.Prelude.{ℕ, zero, suc, ◌==◌, Bool, true, false, List, [], ◌∷◌, ◌++◌, Option, Some, None, is_some, ℤ, if◌then◌else◌}
use Rattle.arrayvec.specs.ArrayVec.{ArrayVec}
use Rattle.mlp_syntax.specs.declared.fault.Field.{Field}
use Rattle.mlp_bits.specs.Bits.{digit}
use Rattle.mlp_bits.specs.Signed.{signed, unsigned}
use Rattle.mlp_layout.specs.Layout.{Layout, Rule, number_of, seen, ruled, made, never, part, item}

-- ---- rules

-- a rule that holds or fails at this bit of the value
abbrev pub must_at : {A : Type 0} → ℕ → Field → (A → Bool) → Rule A
must_at at field holds = record { field = field; fails = λ x. if holds x then None else Some at }

-- a rule that holds or fails at the value's first bit
abbrev pub must : {A : Type 0} → Field → (A → Bool) → Rule A
must field holds = must_at 0 field holds

-- rules on a part of a value, whose places are counted from the value's first bit
abbrev pub on : {A B : Type 0} → (B → A) → List (Rule A) → List (Rule B)
on of_value [] = []
on of_value (rule ∷ rules) =
    record { field = rule.field; fails = λ x. rule.fails (of_value x) } ∷ on of_value rules

-- rules that are tried in this order, once the value was read
unfoldable pub under : {A : Type 0} → List (Rule A) → Layout A → Layout A
under [] l = l
under (rule ∷ rules) l = under rules (ruled rule l)

-- the first of these rules that fails, and at which bit of the value
abbrev pub fault_or : Field → Option ℕ → Option (Field × ℕ) → Option (Field × ℕ)
fault_or field None later = later
fault_or field (Some at) later = Some (field, at)

abbrev pub first_fault : {A : Type 0} → List (Rule A) → A → Option (Field × ℕ)
first_fault [] x = None
first_fault (rule ∷ rules) x = fault_or rule.field (rule.fails x) (first_fault rules x)

-- ---- bits, signed numbers, fixed bits, checks

-- one bit
unfoldable pub flag : Layout Bool
flag = seen (λ n. n == 1) (λ b. Some (digit b)) (number_of 1)

-- a signed number in two's complement
unfoldable pub signed_of : ℕ → Layout ℤ
signed_of width = seen (signed width) (unsigned width) (number_of width)

-- a number that is always the same, before the rest
unfoldable pub fixed : {A : Type 0} → ℕ → ℕ → Field → Layout A → Layout A
fixed width value field rest = part (ruled (must field (λ n. n == value)) (number_of width)) (λ x. value) (λ n. rest)

-- a check over the bits of a value, behind it
unfoldable pub checked : {A : Type 0} → ℕ → (List Bool → ℕ) → Field → Layout A → Layout A
checked width check field l = part l (λ x. x) (λ x. fixed width (check (l.spelling x)) field (made x))

-- ---- choices

-- one of two layouts
unfoldable pub chosen : {A : Type 0} → Bool → Layout A → Layout A → Layout A
chosen true l m = l
chosen false l m = m

-- a value that is there or not, as what was read before says
unfoldable pub present : {A : Type 0} → Bool → Layout A → Layout (Option A)
present there l = chosen there (seen Some (λ o. o) l) (made None)

-- a value behind a flag, where a presence bit is set; neither where it isn't
unfoldable pub group : {A : Type 0} → Bool → Layout A → Layout (Option A)
group there l = chosen there (part flag is_some (λ b. present b l)) (made None)

-- ---- lists

abbrev pub is_empty : {A : Type 0} → List A → Bool
is_empty [] = true
is_empty (x ∷ xs) = false

-- so many values of one layout
unfoldable pub times : {A : Type 0} → ℕ → Layout A → Layout (List A)
times zero l = made []
times (suc n) l = item l (λ x. times n l)

-- so many values of one layout, in a list of bounded room
unfoldable pub listed : {A : Type 0} → ℕ → Layout A → Layout (ArrayVec A)
listed n l = part (times n l) (λ v. v.items) (λ items. made (record { items = items }))

-- a value for each item of a list
unfoldable pub each : {S A : Type 0} → (S → Layout A) → List S → Layout (List A)
each l [] = made []
each l (s ∷ ss) = item (l s) (λ x. each l ss)

-- so many values, each of which may depend on those before it
unfoldable pub series : {A : Type 0} → (List A → Layout A) → ℕ → List A → Layout (List A)
series l zero before = made []
series l (suc n) before = item (l before) (λ x. series l n (before ++ x ∷ []))

-- values up to a last one, each by what those before it leave, with a bit behind each that is 1 behind the last;
-- where more than so many come this fails
module _ {S A : Type 0} (value : S → Layout A) (after : S → A → S) (field : Field) where
  unfoldable pub up_to_last : ℕ → S → Layout (List A)
  up_to_last zero s = never field
  up_to_last (suc n) s =
      item (value s) (λ x.
      part flag is_empty (λ last.
      chosen last (made []) (up_to_last n (after s x))))
