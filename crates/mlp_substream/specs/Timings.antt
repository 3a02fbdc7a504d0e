-- Output timings: what is in force and what is coded without them, or with others.
use Rattle.std.specs.Prelude.{◌≡◌, ℕ, map, Option, option_map}
use Rattle.mlp_syntax.specs.declared.restart.Restart.{Restart}
use Rattle.mlp_syntax.specs.declared.segment.BlockHead.{BlockHead}
use Rattle.mlp_syntax.specs.declared.segment.Segment.{Segment}
use Rattle.mlp_params.specs.declared.state.State.{State}

-- a restart with this output timing in place of its own
abbrev pub stamp : ℕ → Restart → Restart
stamp t r = record r { output_timing = t }

-- what is in force, with output timing 0
abbrev pub timeless : State → State
timeless s = record s { restart = stamp 0 s.restart }

-- what is in force in two places is the same, but perhaps for the output timing
abbrev pub SameButForTiming : Option State → Option State → Type 0
SameButForTiming f g = option_map timeless f ≡ option_map timeless g

abbrev pub stamp_head : ℕ → BlockHead → BlockHead
stamp_head t h = record h { restart = option_map (stamp t) h.restart }

-- a segment with this output timing in each of its restarts
abbrev pub stamped : ℕ → Segment → Segment
stamped t s = record s { blocks = record { items = map (stamp_head t) s.blocks.items } }
