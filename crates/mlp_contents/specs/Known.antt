-- What other substreams of the unit and earlier units say of a segment.
use Rattle.std.specs.Prelude.{ℕ, ◌==◌, nat_le, ◌&&◌, Bool, false, map, List, [], ◌∷◌, length, Option, Some, None, is_some, option_map, if◌then◌else◌}
use Rattle.std.specs.List.{list_any, range_with_len}
use Rattle.mlp_syntax.specs.declared.restart.Restart.{Restart}
use Rattle.mlp_syntax.specs.declared.segment.BlockHead.{BlockHead}
use Rattle.mlp_syntax.specs.declared.segment.Segment.{Segment}
use Rattle.mlp_params.specs.declared.state.State.{State}
use Rattle.mlp_residual.specs.Frames.{packed}
use Rattle.mlp_substream.specs.declared.known.Ending.{Ending}
use Rattle.mlp_substream.specs.declared.known.Known.{Known}

-- how substream 0 ends, for those behind it
abbrev pub ending_of : List Segment → Option Ending
ending_of [] = None
ending_of (s ∷ ss) = Some (record { frames = length s.codes.items; terminator = is_some s.terminator })

abbrev pub first_restart : List BlockHead → Option Restart
first_restart [] = None
first_restart (h ∷ hs) = h.restart

abbrev pub has_channel : ℕ → Option Restart → Bool
has_channel c None = false
has_channel c (Some r) = nat_le r.min c && nat_le c r.max

-- bit c: one of these segments codes channel c from its restart on
abbrev pub covered_by : List Segment → ℕ
covered_by ss =
    packed (map (λ c. list_any (λ s. has_channel c (first_restart s.blocks.items)) ss) (range_with_len 0 8))

-- What is known of a segment by what is in force before it, the channels that earlier segments of the unit code, and
-- how substream 0 ends. The channels and the check of the interval so far decide in the last substream that is read. A
-- check is due where something is in force, which is nowhere before unit 0
abbrev pub known_by : Bool → Option State → ℕ → ℕ → Option Ending → Known
known_by is_last force check covered first = record {
  max_matrix = option_map (λ s. s.restart.max_matrix) force;
  covered = if is_last then Some covered else None;
  lossless = if is_last then option_map (λ s. check) force else None;
  first = first;
}

-- .. behind these segments, where `last` is the number of the last substream that is read
abbrev pub known : ℕ → Option State → ℕ → List Segment → Known
known last force check before = known_by (length before == last) force check (covered_by before) (ending_of before)
