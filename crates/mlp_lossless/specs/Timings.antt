-- The timings that the units of a stream carry.
use Rattle.std.specs.Prelude.{ℕ, ◌*◌, List, [], ◌∷◌, map, slice_index_or, Option, Some, None}
use Rattle.std.specs.List.{flat_map}
use Rattle.mlp_syntax.specs.declared.restart.Restart.{Restart}
use Rattle.mlp_syntax.specs.declared.segment.BlockHead.{BlockHead}
use Rattle.mlp_syntax.specs.declared.segment.Segment.{Segment}
use Rattle.mlp_contents.specs.Units.{Unit_of}
use Rattle.mlp_fifo.specs.Fitting.{UnitTimings}

abbrev pub restart_timing : Option Restart → List ℕ
restart_timing None = []
restart_timing (Some r) = r.output_timing ∷ []

abbrev pub block_timings : List BlockHead → List ℕ
block_timings heads = flat_map (λ h. restart_timing h.restart) heads

-- the output timings of the restart headers in segments, in their order
abbrev pub output_timings : List Segment → List ℕ
output_timings segments = flat_map (λ s. block_timings s.blocks.items) segments

-- the length is the one that the head tells, in words of two bytes
abbrev pub timings_of : Unit_of → UnitTimings
timings_of u = record {
  input = u.outer.head.timing;
  outputs = output_timings u.contents;
  bytes = 2 * u.outer.head.words;
}

abbrev pub no_timings : UnitTimings
no_timings = record { input = 0; outputs = []; bytes = 0 }

abbrev pub timings_at : List Unit_of → ℕ → UnitTimings
timings_at units i = slice_index_or (map timings_of units) i no_timings
