-- The generator: frames of PCM by a seed.
use Rattle.std.specs.Prelude.{ℕ, zero, suc, ◌+◌, ◌-◌, ◌*◌, ◌/◌, ◌%◌, ◌^◌, List, ◌++◌, map, replicate, ℤ, pos, ◌+ℤ◌, ◌-ℤ◌, ◌*ℤ◌}
use Rattle.std.specs.List.{range_with_len}
use Rattle.mlp_arith.specs.Words.{clear}
use Rattle.mlp_fifo.specs.Pace.{unit_of}
use Rattle.mlp_fold.specs.declared.profile.Profile.{Profile}
use Rattle.mlp_encode.specs.Numbers.{low_zeros}

abbrev pub next_state : ℕ → ℕ
next_state s = (s * 1664525 + 1013904223) % 2 ^ 32

-- the state behind so many samples
unfoldable pub state_after : ℕ → ℕ → ℕ
state_after seed zero = seed
state_after seed (suc n) = next_state (state_after seed n)

-- the noise of a state, from -128 to 127
abbrev pub noise : ℕ → ℤ
noise s = pos (s / 2 ^ 24) -ℤ pos 128

-- a triangle over 4096 steps, from -1024 to 1024: channel c goes (c + 1) * 37 steps a frame
abbrev pub phase : ℕ → ℕ → ℕ
phase i c = i * (c + 1) * 37 % 4096

abbrev pub triangle : ℕ → ℕ → ℤ
triangle i c = pos ((phase i c - 2048) + (2048 - phase i c)) -ℤ pos 1024

-- channel c of frame i, by its state, with q low bits cleared
abbrev pub sample : ℕ → ℕ → ℕ → ℕ → ℤ
sample q s i c = clear q (triangle i c *ℤ pos 4096 +ℤ noise s *ℤ pos 16)

-- frame i, by the state before it: so many channels, and zeros up to eight
abbrev pub frame_from : ℕ → ℕ → ℕ → ℕ → List ℤ
frame_from q channels s i =
    map (λ c. sample q (state_after s (c + 1)) i c) (range_with_len 0 channels) ++ replicate (8 - channels) (pos 0)

abbrev pub frame_at : Profile → ℕ → ℕ → List ℤ
frame_at p seed i = frame_from (low_zeros p.depth) p.channels (state_after seed (i * p.channels)) i

-- the frames of unit n, and of so many units
abbrev pub unit_at : Profile → ℕ → ℕ → List (List ℤ)
unit_at p seed n = map (frame_at p seed) (range_with_len (n * unit_of p.rate) (unit_of p.rate))

abbrev pub generated : Profile → ℕ → ℕ → List (List (List ℤ))
generated p seed count = map (unit_at p seed) (range_with_len 0 count)
