-- Streams as their outer parts show them: no segment is read.
use Rattle.std.specs.Prelude.{◌≡◌, ◌⊎◌, ℕ, min, List, Option, None}
use Rattle.mlp_syntax.specs.declared.fault.Fault.{Fault}
use Rattle.mlp_syntax.specs.declared.major.MajorSync.{MajorSync}
use Rattle.mlp_bits.specs.Bits.{bits_of}
use Rattle.mlp_layout.specs.Contents.{nothing}
use Rattle.mlp_layout.specs.Streams.{Format, UnitOf, Units, UnitsFail}
use Rattle.mlp_unit.specs.AccessUnit.{AccessUnit, access_unit, in_force, substreams_of}

-- units leave the stream's first major sync; a fourth substream has no presentation of its own
abbrev pub outline : Format (Option MajorSync) AccessUnit (Unit {0})
outline = record {
  outer = access_unit;
  contents = λ first u. nothing;
  after = λ first u. in_force first u.outer.major;
  presentations = λ u. min 3 (substreams_of u.major);
}

-- the bytes are these units, of which there is one at least
abbrev pub Outline : List ℕ → List (UnitOf AccessUnit (Unit {0})) → Type 0
Outline bytes units = Units outline None (bits_of bytes) units

-- the first of the rules on the outer parts that fails, and in which unit
abbrev pub OutlineBreaks : List ℕ → Fault → Type 0
OutlineBreaks bytes fault = UnitsFail outline None (bits_of bytes) fault

-- exactly one of the two holds, with one list or one fault
pub record HasOneOutline (bytes : List ℕ) : Type 0 where
  pub some : ((us : _) × Outline bytes us) ⊎ ((fault : Fault) × OutlineBreaks bytes fault)
  pub not_both : (us : _) (fault : Fault) → Outline bytes us → OutlineBreaks bytes fault → ⊥
  pub one_list : (us vs : _) → Outline bytes us → Outline bytes vs → us ≡ vs
  pub one_fault : (d e : Fault) → OutlineBreaks bytes d → OutlineBreaks bytes e → d ≡ e
