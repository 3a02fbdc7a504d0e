-- The samples of a stream, by the whole sequences of its channels since their restart.
use Rattle.std.specs.Prelude.{ℕ, zero, suc, ◌+◌, ◌-◌, reverse, List, [], ◌∷◌, ◌++◌, length, map, slice_index_or, true, Option, Some, None, is_some, if◌then◌else◌, ℤ}
use Rattle.std.specs.List.{flat_map, range_with_len}
use Rattle.mlp_syntax.specs.declared.major.MajorSync.{MajorSync}
use Rattle.mlp_syntax.specs.declared.segment.BlockHead.{BlockHead}
use Rattle.mlp_syntax.specs.declared.segment.FrameCode.{FrameCode}
use Rattle.mlp_params.specs.declared.state.State.{State}
use Rattle.mlp_params.specs.InForce.{behind_blocks}
use Rattle.mlp_predict.specs.Outputs.{Frame, frame_at, outputs_at}
use Rattle.mlp_matrix.specs.Noise.{seed_at}
use Rattle.mlp_unit.specs.AccessUnit.{stream_kind}
use Rattle.mlp_substream.specs.declared.known.Place.{Place}
use Rattle.mlp_channels.specs.Channels.{channel_frames, codes_channel}
use Rattle.mlp_output.specs.Output.{samples_of, matrixed, dropped}
use Rattle.mlp_contents.specs.Units.{Left, Unit_of, top_of, frames_in_unit, frames_out, placed_by, after}

-- ---- by steps: what each unit gives by what those before it leave

abbrev pub frames_by_steps : ℕ → Left → List Unit_of → List (List ℤ)
frames_by_steps k left [] = []
frames_by_steps k left (u ∷ us) = frames_out k left u ++ frames_by_steps k (after k left u) us

-- ---- units since a major sync

-- the blocks that substream j has in them, and the frames as these code them
abbrev pub blocks_in : ℕ → List Unit_of → List BlockHead
blocks_in j us = flat_map (λ u. (top_of j u.contents).blocks.items) us

abbrev pub frame_codes : ℕ → List Unit_of → List FrameCode
frame_codes j us = flat_map (λ u. (top_of j u.contents).codes.items) us

-- what is in force in substream j at their end
abbrev pub in_force_in : Place → ℕ → List Unit_of → Option State
in_force_in place j us = behind_blocks place.format place.unit_frames (reverse (blocks_in j us))

-- ---- a frame of presentation k, by its number since the major sync

-- the greatest of the substreams 0 to k that codes channel c
abbrev pub coder : Place → ℕ → List Unit_of → ℕ → ℕ
coder place zero us c = 0
coder place (suc k) us c = if codes_channel (in_force_in place (suc k) us) c then suc k else coder place k us c

-- the frames of channel c in substream j
abbrev pub frames_in_units : Place → ℕ → List Unit_of → ℕ → List Frame
frames_in_units place j us c = channel_frames place None c (blocks_in j us) (frame_codes j us)

-- each matrix channel by the whole sequence of its outputs
abbrev pub coded_frame : Place → ℕ → List Unit_of → State → ℕ → List ℤ
coded_frame place k us s i =
    map (λ c. outputs_at (frame_at (frames_in_units place (coder place k us c) us c)) i)
    (range_with_len 0 (s.restart.max_matrix + 1))

abbrev pub no_code : FrameCode
no_code = record { bypass = 0; codes = record { items = [] } }

abbrev pub bypass_at : ℕ → List Unit_of → ℕ → ℕ
bypass_at k us i = (slice_index_or (frame_codes k us) i no_code).bypass

-- the samples of its matrix channels by a state in force, with the noise of its number since the restart
abbrev pub heard_frame : Place → ℕ → List Unit_of → State → ℕ → List ℤ
heard_frame place k us s i =
    samples_of s.shifts.items (matrixed s (seed_at s.restart.seed i) (bypass_at k us i) (coded_frame place k us s i))

-- ---- the frames of a unit, behind others of its interval

abbrev pub count_in : ℕ → List Unit_of → ℕ
count_in k us = length (frame_codes k us)

-- its own that aren't dropped
abbrev pub kept : Place → ℕ → Unit_of → ℕ
kept place k u = length (top_of k u.contents).codes.items - dropped place.format (top_of k u.contents).terminator

abbrev pub heard_by : Place → ℕ → List Unit_of → ℕ → ℕ → Option State → List (List ℤ)
heard_by place k us first count None = []
heard_by place k us first count (Some s) = map (heard_frame place k us s) (range_with_len first count)

-- by what is in force at the unit's end
abbrev pub unit_heard : Place → ℕ → List Unit_of → Unit_of → List (List ℤ)
unit_heard place k before u =
    heard_by place k (before ++ u ∷ []) (count_in k before) (kept place k u) (in_force_in place k (before ++ u ∷ []))

-- .. each sample at its output channel
abbrev pub unit_samples : Place → ℕ → List Unit_of → Unit_of → List (List ℤ)
unit_samples place k before u = placed_by (in_force_in place k (before ++ u ∷ [])) (unit_heard place k before u)

-- ---- all units: an interval begins at each major sync

-- the units of its interval before a unit
abbrev pub before_unit : List Unit_of → Unit_of → List Unit_of
before_unit since u = if is_some u.outer.major then [] else since

abbrev pub samples_behind : Place → ℕ → List Unit_of → List Unit_of → List (List ℤ)
samples_behind place k since [] = []
samples_behind place k since (u ∷ us) =
    unit_samples place k (before_unit since u) u ++ samples_behind place k (before_unit since u ++ u ∷ []) us

abbrev pub first_sync : List Unit_of → Option MajorSync
first_sync [] = None
first_sync (u ∷ us) = u.outer.major

-- where units stand in a stream with this first major sync; that a unit has one of its own isn't looked at here
abbrev pub place_in : Option MajorSync → Place
place_in sync = record { format = stream_kind sync; unit_frames = frames_in_unit sync; major = true }

-- the samples of presentation k: of each unit's frames that aren't dropped, eight places each
abbrev pub samples : ℕ → List Unit_of → List (List ℤ)
samples k us = samples_behind (place_in (first_sync us)) k [] us
