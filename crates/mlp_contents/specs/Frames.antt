-- The frames of a unit, from the channels that its substreams code.
use Rattle.std.specs.Prelude.{ℕ, ◌+◌, ◌-◌, Bool, true, false, List, [], ◌∷◌, take, map, length, slice_index_or, Option, Some, None, if◌then◌else◌, ℤ, pos}
use Rattle.std.specs.List.{range_with_len}
use Rattle.mlp_syntax.specs.declared.segment.Segment.{Segment}
use Rattle.mlp_params.specs.declared.state.State.{State}
use Rattle.mlp_substream.specs.declared.known.Place.{Place}
use Rattle.mlp_substream.specs.Blocks.{force_after}
use Rattle.mlp_channels.specs.Channels.{Coded, codes_channel, outputs_in}
use Rattle.mlp_output.specs.Output.{heard, dropped}

-- does one of these substreams code channel c behind its segment?
abbrev pub is_coded_by : Place → List Coded → List Segment → ℕ → Bool
is_coded_by place [] ss c = false
is_coded_by place (x ∷ xs) [] c = false
is_coded_by place (x ∷ xs) (s ∷ ss) c =
    if codes_channel (force_after place x.force s.blocks.items) c then true else is_coded_by place xs ss c

-- channel c comes from the greatest substream that codes it
abbrev pub channel : Place → List Coded → List Segment → ℕ → List ℤ
channel place [] ss c = []
channel place (x ∷ xs) [] c = []
channel place (x ∷ xs) (s ∷ ss) c =
    if is_coded_by place xs ss c then channel place xs ss c
    else (if codes_channel (force_after place x.force s.blocks.items) c then outputs_in place x s c else [])

-- so many frames of the channels 0 to m
abbrev pub frames_of : (ℕ → List ℤ) → ℕ → ℕ → List (List ℤ)
frames_of channels m n =
    map (λ i. map (λ c. slice_index_or (channels c) i (pos 0)) (range_with_len 0 (m + 1))) (range_with_len 0 n)

-- the samples of the matrix channels in each frame that isn't dropped, of these channels, by the segment of the last
-- substream that is read and what is in force behind it. A restart in the unit gives the seed
abbrev pub heard_in : Place → (ℕ → List ℤ) → ℕ → Segment → Option State → List (List ℤ)
heard_in place channels seed top None = []
heard_in place channels seed top (Some s) =
    take (length top.codes.items - dropped place.format top.terminator)
    (heard s (if place.major then s.restart.seed else seed) (map (λ f. f.bypass) top.codes.items)
    (frames_of channels s.restart.max_matrix (length top.codes.items)))
