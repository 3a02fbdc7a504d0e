-- Texts that reach to the end of the bits: a tail does so from its place on, and a whole text is all of the bits.
use Rattle.std.specs.Prelude.{◌≡◌, ◌≢◌, ℕ, ◌+◌, ◌-◌, ◌<◌, ◌≤◌, ◌==◌, nat_le, Bool, true, false, List, ◌++◌, length, take, drop, Result, Ok, Err, Option, Some, None, if◌then◌else◌, ◌⊎◌}
use Rattle.mlp_syntax.specs.declared.fault.Field.{Field}
use Rattle.mlp_syntax.specs.declared.fault.Field.TheVariants as rule
use Rattle.mlp_syntax.specs.declared.fault.Broken.{Broken}
use Rattle.mlp_bits.specs.Bits.{bits, number}
use Rattle.mlp_layout.specs.Reading.{Read, Stands, broken, short}
use Rattle.mlp_layout.specs.Layout.{Layout, Found, spelling_as, MeetsAs}

-- How a tail is spelled may depend on its place, and how it is read on how many bits are left.
pub record Tail (R : Type 0) : Type 1 where
  pub spelling : ℕ → R → List Bool
  pub Fits : ℕ → R → Type 0
  pub Meets : ℕ → R → Type 0
  pub Fails : List Bool → ℕ → Broken → Type 0
  pub read : List Bool → ℕ → Result R Broken

-- a value that fits stands from this place to the end, and meets the rules
pub record FoundTail {R : Type 0} (t : Tail R) (all : List Bool) (place : ℕ) (r : R) : Type 0 where
  pub fits : t.Fits place r
  pub meets : t.Meets place r
  pub stands : Stands all place (t.spelling place r)
  pub ends : length all ≡ place + length (t.spelling place r)

abbrev pub then_tail : {A R : Type 0} → Read A → (A × ℕ → Result R Broken) → Result R Broken
then_tail (Ok x) f = f x
then_tail (Err e) f = Err e

-- a part of a record, and behind it a tail, which may depend on it
unfoldable pub part_tail : {A R : Type 0} → Layout A → (R → A) → (A → Tail R) → Tail R
part_tail first of_record rest = record {
  spelling = λ place r. first.spelling (of_record r)
      ++ (rest (of_record r)).spelling (place + length (first.spelling (of_record r))) r;
  Fits = λ place r. first.Fits (of_record r)
      × (rest (of_record r)).Fits (place + length (first.spelling (of_record r))) r;
  Meets = λ place r. first.Meets (of_record r)
      × (rest (of_record r)).Meets (place + length (first.spelling (of_record r))) r;
  Fails = λ all place e. first.Fails all place e
      ⊎ ((a : _) × Found first all place a × (rest a).Fails all (place + length (first.spelling a)) e);
  read = λ all place. then_tail (first.read all place) (λ a. (rest a.0).read all a.1);
}

-- a tail that depends on its place
unfoldable pub placed : {R : Type 0} → (ℕ → Tail R) → Tail R
placed tail = record {
  spelling = λ place r. (tail place).spelling place r;
  Fits = λ place r. (tail place).Fits place r;
  Meets = λ place r. (tail place).Meets place r;
  Fails = λ all place e. (tail place).Fails all place e;
  read = λ all place. (tail place).read all place;
}

-- nothing where no bits are left, a last value where so many are left, and else this fails
abbrev pub ending_read : {T R : Type 0} → Field → ℕ → Layout T
    → (Option T → R) → List Bool → ℕ → Result R Broken
ending_read field width last made all place =
    if length all == place then Ok (made None)
    else if length all == place + width then then_tail (last.read all place) (λ t. Ok (made (Some t.0)))
    else Err (broken field place)

unfoldable pub ending : {T R : Type 0} → Field → ℕ
    → Layout T → (R → Option T) → (Option T → R) → Tail R
ending field width last of_record made = record {
  spelling = λ place r. spelling_as last.spelling (of_record r);
  Fits = λ place r. MeetsAs last.Fits (of_record r) × (made (of_record r) ≡ r);
  Meets = λ place r. MeetsAs last.Meets (of_record r);
  Fails = λ all place e. (length all ≢ place) × (((length all ≢ place + width) × (e ≡ broken field place))
      ⊎ ((length all ≡ place + width) × last.Fails all place e));
  read = ending_read field width last made;
}

-- ---- whole texts

pub record Whole (R : Type 0) : Type 1 where
  pub spelling : R → List Bool
  pub Fits : R → Type 0
  pub Meets : R → Type 0
  pub Fails : List Bool → Broken → Type 0
  pub read : List Bool → Result R Broken

-- the bits spell a value that fits and meets the rules
pub record FoundWhole {R : Type 0} (w : Whole R) (all : List Bool) (r : R) : Type 0 where
  pub fits : w.Fits r
  pub meets : w.Meets r
  pub text_is : all ≡ w.spelling r

unfoldable pub whole_text : {R : Type 0} → Tail R → Whole R
whole_text tail = record {
  spelling = λ r. tail.spelling 0 r;
  Fits = λ r. tail.Fits 0 r;
  Meets = λ r. tail.Meets 0 r;
  Fails = λ all e. tail.Fails all 0 e;
  read = λ all. tail.read all 0;
}

-- rules that are tried at the end, on the number of all bits and the value: the first that fails, and its place
abbrev pub EndJudge : Type 0 → Type 0
EndJudge R = ℕ → R → Option (Field × ℕ)

abbrev pub end_read : {R : Type 0} → Option (Field × ℕ) → R → Result R Broken
end_read None r = Ok r
end_read (Some b) r = Err (broken b.0 b.1)

abbrev pub then_judge : {R : Type 0} → Result R Broken → (R → Option (Field × ℕ)) → Result R Broken
then_judge (Ok r) judge = end_read (judge r) r
then_judge (Err e) judge = Err e

unfoldable pub judged_at_end : {R : Type 0} → EndJudge R → Whole R → Whole R
judged_at_end judge w = record {
  spelling = w.spelling;
  Fits = w.Fits;
  Meets = λ r. w.Meets r × (judge (length (w.spelling r)) r ≡ None);
  Fails = λ all e. w.Fails all e ⊎ ((r : _) × (b : Field × ℕ) × FoundWhole w all r
      × (judge (length all) r ≡ Some b) × (e ≡ broken b.0 b.1));
  read = λ all. then_judge (w.read all) (judge (length all));
}

-- ---- two bytes of checks behind a text, which are tried before it is read

-- the number that 8 bits from a place on spell
abbrev pub byte_at : ℕ → List Bool → ℕ
byte_at place all = number (take 8 (drop place all))

-- the text before the two bytes
abbrev pub checked_part : List Bool → List Bool
checked_part all = take (length all - 16) all

abbrev pub parity_is : (List Bool → ℕ) → List Bool → Bool
parity_is parity all = byte_at (length all - 16) all == parity (checked_part all)

abbrev pub check_is : (List Bool → ℕ) → List Bool → Bool
check_is check all = byte_at (length all - 8) all == check (checked_part all)

abbrev pub checked_read : {R : Type 0} → (List Bool → ℕ)
    → (List Bool → ℕ) → Whole R → List Bool → Result R Broken
checked_read parity check w all =
    if nat_le 32 (length all) then
    if parity_is parity all then
    if check_is check all then w.read (checked_part all)
    else Err (broken rule.SegmentCheck (length all - 8))
    else Err (broken rule.SegmentParity (length all - 16))
    else Err (short 0)

-- the fault of the two bytes or of fewer than four, or of the text before them
abbrev CheckedFails : {R : Type 0} → (List Bool → ℕ)
    → (List Bool → ℕ) → Whole R → List Bool → Broken → Type 0
CheckedFails parity check w all e =
    ((length all < 32) × (e ≡ short 0)) ⊎
    (((32 ≤ length all) × (parity_is parity all ≡ false)
    × (e ≡ broken rule.SegmentParity (length all - 16))) ⊎
    (((32 ≤ length all) × (parity_is parity all ≡ true) × (check_is check all ≡ false)
    × (e ≡ broken rule.SegmentCheck (length all - 8))) ⊎
    ((32 ≤ length all) × (parity_is parity all ≡ true)
    × (check_is check all ≡ true) × w.Fails (checked_part all) e)))

unfoldable pub checked_first : {R : Type 0} → (List Bool → ℕ) → (List Bool → ℕ) → Whole R → Whole R
checked_first parity check w = record {
  spelling = λ r. w.spelling r ++ (bits 8 (parity (w.spelling r)) ++ bits 8 (check (w.spelling r)));
  Fits = w.Fits;
  Meets = w.Meets;
  Fails = CheckedFails parity check w;
  read = checked_read parity check w;
}

unfoldable pub chosen_whole : {R : Type 0} → Bool → Whole R → Whole R → Whole R
chosen_whole true v w = v
chosen_whole false v w = w

-- ---- what tails and whole texts owe

abbrev pub SoundTail : {R : Type 0} → Tail R → List Bool → ℕ → Result R Broken → Type 0
SoundTail t all place (Ok r) = FoundTail t all place r
SoundTail t all place (Err e) = t.Fails all place e

-- what reading gives is there, and what is there is what reading gives
pub record IsTail {R : Type 0} (t : Tail R) : Type 0 where
  pub sound : (all : List Bool) (place : ℕ) → place ≤ length all → SoundTail t all place (t.read all place)
  pub found : (all : List Bool) (place : ℕ) (r : R) → FoundTail t all place r → t.read all place ≡ Ok r
  pub failed : (all : List Bool) (place : ℕ) (e : Broken) → t.Fails all place e → t.read all place ≡ Err e

abbrev pub SoundWhole : {R : Type 0} → Whole R → List Bool → Result R Broken → Type 0
SoundWhole w all (Ok r) = FoundWhole w all r
SoundWhole w all (Err e) = w.Fails all e

pub record IsWhole {R : Type 0} (w : Whole R) : Type 0 where
  pub sound : (all : List Bool) → SoundWhole w all (w.read all)
  pub found : (all : List Bool) (r : R) → FoundWhole w all r → w.read all ≡ Ok r
  pub failed : (all : List Bool) (e : Broken) → w.Fails all e → w.read all ≡ Err e
