use Rattle.std.proofs.Common.{ℕ, ◌≤◌, ◌+◌, ◌-◌, Bool, List, [], length, map, take, drop}
use Rattle.mlp_syntax.specs.declared.segment.Code.{Code}
use Rattle.mlp_bits.specs.Bits.{bits_of}
use Rattle.mlp_layout.specs.Reading.{Read}
use Rattle.mlp_layout.specs.Combined.{series}
use Rattle.mlp_layout.proofs.Loops.{SeriesContinues}
use Rattle.mlp_residual.specs.declared.ahead.Lookup.{Lookup}
use Rattle.mlp_residual.specs.Lookups.{channel_of, most_in, IsWindow, Planned}
use Rattle.mlp_residual.specs.Frames.{code_at}
use Rattle.mlp_residual.proofs.ahead.codes_ahead.Given as goal

-- the codes so far, and the window behind them
pub record SoFar (lookups : List Lookup) (all : List Bool) (place i end window : ℕ) (codes : List Code) (total : Read (List Code)) : Type 0 where
  pub left : ℕ
  pub window_is : IsWindow window left all end
  pub planned : Planned left (drop i lookups)
  pub from : place ≤ end
  pub to : end + most_in (drop i lookups) ≤ place + most_in lookups
  pub so_far : SeriesContinues (code_at (map channel_of lookups)) (length lookups - i) (take i codes) all end total

abbrev pub invariant-loop-i : goal.invariant-loop-i
invariant-loop-i l = SoFar l.lookups (bits_of l.bytes) l.place l.i l.end l.window l.codes ((series (code_at (map channel_of l.lookups)) (length l.lookups) []).read (bits_of l.bytes) l.place)
