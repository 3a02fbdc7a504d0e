-- All timings of a stream, as those that a retimed one has.
use Rattle.std.specs.Prelude.{ℕ, List, [], ◌∷◌, length, map, slice_index_or, Option, Some, None}
use Rattle.std.specs.List.{flat_map}
use Rattle.mlp_syntax.specs.declared.major.MajorSync.{MajorSync}
use Rattle.mlp_syntax.specs.declared.restart.Restart.{Restart}
use Rattle.mlp_syntax.specs.declared.segment.BlockHead.{BlockHead}
use Rattle.mlp_syntax.specs.declared.segment.Segment.{Segment}
use Rattle.mlp_contents.specs.Units.{Unit_of}
use Rattle.mlp_fifo.specs.Fitting.{UnitTimings, IsFitting}
use Rattle.mlp_retime.specs.Retimed.{length_of, pace_in}

abbrev pub timing_of : Option Restart → List ℕ
timing_of None = []
timing_of (Some r) = r.output_timing ∷ []

abbrev pub block_timings : List BlockHead → List ℕ
block_timings heads = flat_map (λ h. timing_of h.restart) heads

-- the output timing of each restart in these segments, that of substream 0 first
abbrev pub restart_timings : List Segment → List ℕ
restart_timings ss = flat_map (λ s. block_timings s.blocks.items) ss

abbrev pub unit_timings : Unit_of → UnitTimings
unit_timings u = record { input = u.outer.head.timing; outputs = restart_timings u.contents; bytes = length_of u }

abbrev pub timings_at : List Unit_of → ℕ → UnitTimings
timings_at us i = slice_index_or (map unit_timings us) i (record { input = 0; outputs = []; bytes = 0 })

-- behind this first major sync the units have the times of the earliest schedule of their lengths, which all their
-- restarts tell
abbrev pub Fit : Option MajorSync → List Unit_of → Type 0
Fit sync us = IsFitting (pace_in sync) (timings_at us) (length us)
