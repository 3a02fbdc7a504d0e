-- The samples of a presentation, from coded channels: matrices, noise, output shifts, places.
use Rattle.std.specs.Prelude.{ℕ, ◌+◌, ◌*◌, ◌/◌, ◌%◌, ◌^◌, ◌==◌, List, [], ◌∷◌, ◌++◌, map, replicate, slice_set, Option, Some, None, if◌then◌else◌, ℤ, pos, ◌*ℤ◌, bit_xor}
use Rattle.std.specs.Int.{w32, cast_unsigned}
use Rattle.mlp_syntax.specs.declared.major.Kind.{Kind}
use Rattle.mlp_syntax.specs.declared.major.Kind.TheVariants.{Fbb, Fba}
use Rattle.mlp_syntax.specs.declared.restart.Restart.{Restart}
use Rattle.mlp_bits.specs.Bits.{bit}
use Rattle.mlp_params.specs.declared.state.State.{State}
use Rattle.mlp_arith.specs.Words.{low24}
use Rattle.mlp_matrix.specs.Matrix.{applied}
use Rattle.mlp_matrix.specs.Noise.{noise_values, next_seed}

-- ---- one frame

-- the two noise values of a frame; kind 1 has none
abbrev pub noise_in : Restart → ℕ → List ℤ
noise_in r seed = if r.kind == 0 then noise_values r.noise_shift seed else []

-- the matrix channels of a frame, behind the rows
abbrev pub matrixed : State → ℕ → ℕ → List ℤ → List ℤ
matrixed s seed bypass frame = applied s.rows.items s.steps.items bypass (frame ++ noise_in s.restart seed)

-- a value times 2^shift, as a sample of 24 bits
abbrev pub sample : ℕ → ℤ → ℤ
sample shift x = low24 (x *ℤ pos (2 ^ shift))

-- the sample of each matrix channel
abbrev pub samples_of : List ℕ → List ℤ → List ℤ
samples_of [] frame = []
samples_of (shift ∷ shifts) [] = []
samples_of (shift ∷ shifts) (x ∷ frame) = sample shift x ∷ samples_of shifts frame

-- each of these samples at the output channel that its matrix channel is assigned to, in eight places
abbrev pub placed : List ℕ → List ℤ → List ℤ
placed [] samples = replicate 8 (pos 0)
placed (a ∷ assign) [] = replicate 8 (pos 0)
placed (a ∷ assign) (v ∷ samples) = slice_set (placed assign samples) a v

-- the sum without carries of the samples' 24 bits, each times 2 to its matrix channel
abbrev pub check_from : ℕ → List ℤ → ℕ
check_from c [] = 0
check_from c (v ∷ samples) = bit_xor (cast_unsigned w32 v % 2 ^ 24 * 2 ^ c) (check_from (c + 1) samples)

-- ---- many frames, each with its bypassed bits; the seed moves on in each

-- the samples of the matrix channels in each frame
abbrev pub heard : State → ℕ → List ℕ → List (List ℤ) → List (List ℤ)
heard s seed [] frames = []
heard s seed (b ∷ bypass) [] = []
heard s seed (b ∷ bypass) (f ∷ frames) =
    samples_of s.shifts.items (matrixed s seed b f) ∷ heard s (next_seed seed) bypass frames

-- .. at their places
abbrev pub placed_each : State → List (List ℤ) → List (List ℤ)
placed_each s heard = map (placed s.restart.assign.items) heard

-- the running check behind these
abbrev pub check_of : ℕ → List (List ℤ) → ℕ
check_of running [] = running
check_of running (samples ∷ more) = check_of (bit_xor running (check_from 0 samples)) more

-- .. as the 8 bits of a restart header
abbrev pub folded : ℕ → ℕ
folded running =
    bit_xor (bit_xor (running % 2 ^ 8) (running / 2 ^ 8 % 2 ^ 8))
    (bit_xor (running / 2 ^ 16 % 2 ^ 8) (running / 2 ^ 24 % 2 ^ 8))

-- how many frames a terminator drops from the unit's end
abbrev pub dropped : Kind → Option ℕ → ℕ
dropped kind None = 0
dropped Fbb (Some word) = 0
dropped Fba (Some word) = if bit word 13 then word % 2 ^ 13 else 0
