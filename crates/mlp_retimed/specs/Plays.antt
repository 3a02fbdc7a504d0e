-- What a stream that is retimed plays, and for which presentation it breaks.
use Rattle.std.specs.Prelude.{◌≡◌, ◌⊎◌, ℕ, ◌+◌, List}
use Rattle.mlp_syntax.specs.declared.fault.Fault.{Fault}
use Rattle.mlp_bits.specs.Bits.{bits_of}
use Rattle.mlp_layout.specs.Streams.{in_unit, OuterFails, Has, Stream, Breaks}
use Rattle.mlp_contents.specs.Units.{Unit_of, start, whole}
use Rattle.mlp_samples.specs.Samples.{samples}
use Rattle.mlp_likeness.specs.Cut.{frames_by_unit}

-- for presentation j the bytes are these units, which play what others play
pub record PlaysAs (j : ℕ) (bytes : List ℕ) (vs others : List Unit_of) : Type 0 where
  pub stream : Stream (whole j) (start j) j (bits_of bytes) vs
  pub frames : frames_by_unit j vs ≡ frames_by_unit j others
  pub samples : samples j vs ≡ samples j others

-- the bytes break with this fault: in the outer part of the first unit, or for the highest presentation that it tells
abbrev pub BreaksHighest : List ℕ → Fault → Type 0
BreaksHighest bytes fault =
    ((fault.unit ≡ 0) × OuterFails (whole 0) (start 0) (bits_of bytes) (in_unit fault))
    ⊎ ((k : ℕ) × Has (whole k) (start k) (bits_of bytes) (k + 1) × Breaks (whole k) (start k) k (bits_of bytes) fault)
