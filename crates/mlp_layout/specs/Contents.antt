-- What a unit's own bits contain: segments, each in the range that the outer part of the unit gives.
use Rattle.std.specs.Prelude.{◌≡◌, ℕ, zero, suc, ◌+◌, List, [], ◌∷◌, ◌++◌, Bool, length, take, drop, Result, Ok, Err, ◌⊎◌}
use Rattle.mlp_syntax.specs.declared.fault.Field.{Field}
use Rattle.mlp_syntax.specs.declared.fault.Broken.{Broken}
use Rattle.mlp_layout.specs.Layout.{ConsFits}
use Rattle.mlp_layout.specs.Tails.{Whole, FoundWhole}

-- a rule that fails in a unit, and where, counted from the unit's first bit
pub record UnitFault : Type 0 where
  pub substream : ℕ
  pub field : Field
  pub bit : ℕ

-- a fault of a segment that begins at this bit
abbrev pub in_segment : ℕ → ℕ → Broken → UnitFault
in_segment substream first b = record { substream = substream; field = b.field; bit = first + b.bit }

-- Which values stand in the bits of a unit and fit, which of them the rules accept, where reading fails, and how
-- they are read.
pub record Contents (C : Type 0) : Type 1 where
  pub Fits : List Bool → C → Type 0
  pub Meets : C → Type 0
  pub Fails : List Bool → UnitFault → Type 0
  pub read : List Bool → Result C UnitFault

-- a value stands in the bits, fits and meets the rules
pub record FoundIn {C : Type 0} (c : Contents C) (text : List Bool) (x : C) : Type 0 where
  pub fits : c.Fits text x
  pub meets : c.Meets x

-- nothing is read of the unit's bits
unfoldable pub nothing : Contents (Unit {0})
nothing = record {
  Fits = λ text x. Unit {0};
  Meets = λ x. Unit {0};
  Fails = λ text e. ⊥;
  read = λ text. Ok tt;
}

-- ---- segments

-- a segment: the bit of the unit at which it begins, how many bits it has, and what is spelled there
pub record Portion (S : Type 0) : Type 1 where
  pub first : ℕ
  pub size : ℕ
  pub text : Whole S

-- its bits, of those of the unit
abbrev pub bits_in : {S : Type 0} → Portion S → List Bool → List Bool
bits_in p text = take p.size (drop p.first text)

unfoldable pub no_segments : {S : Type 0} → Contents (List S)
no_segments = record {
  Fits = λ text ss. ss ≡ [];
  Meets = λ ss. Unit {0};
  Fails = λ text e. ⊥;
  read = λ text. Ok [];
}

-- the segment of a substream, before the others, which may depend on it
abbrev pub with_first : {S : Type 0} → S → Result (List S) UnitFault → Result (List S) UnitFault
with_first s (Ok ss) = Ok (s ∷ ss)
with_first s (Err e) = Err e

abbrev pub then_others : {S : Type 0} → ℕ → ℕ → Result S Broken
    → (S → Result (List S) UnitFault) → Result (List S) UnitFault
then_others substream first (Ok s) others = with_first s (others s)
then_others substream first (Err b) others = Err (in_segment substream first b)

unfoldable pub segment_first : {S : Type 0} → ℕ → Portion S → (S → Contents (List S)) → Contents (List S)
segment_first substream p others = record {
  Fits = λ text. ConsFits (λ s. p.text.Fits s × (bits_in p text ≡ p.text.spelling s)) (λ s. (others s).Fits text);
  Meets = ConsFits p.text.Meets (λ s. (others s).Meets);
  Fails = λ text e. ((b : Broken) × p.text.Fails (bits_in p text) b × (e ≡ in_segment substream p.first b))
      ⊎ ((s : _) × FoundWhole p.text (bits_in p text) s × (others s).Fails text e);
  read = λ text. then_others substream p.first (p.text.read (bits_in p text)) (λ s. (others s).read text);
}

-- so many segments, each of which may depend on those before it in the unit
module _ {S : Type 0} (portion : List S → Portion S) where
  unfoldable pub segments : ℕ → List S → Contents (List S)
  segments zero before = no_segments
  segments (suc count) before =
      segment_first (length before) (portion before) (λ s. segments count (before ++ s ∷ []))

-- ---- what contents owe

abbrev pub SoundIn : {C : Type 0} → Contents C → List Bool → Result C UnitFault → Type 0
SoundIn c text (Ok x) = FoundIn c text x
SoundIn c text (Err e) = c.Fails text e

-- what reading gives is there, and what is there is what reading gives
pub record IsContents {C : Type 0} (c : Contents C) : Type 0 where
  pub sound : (text : List Bool) → SoundIn c text (c.read text)
  pub found : (text : List Bool) (x : C) → FoundIn c text x → c.read text ≡ Ok x
  pub failed : (text : List Bool) (e : UnitFault) → c.Fails text e → c.read text ≡ Err e
