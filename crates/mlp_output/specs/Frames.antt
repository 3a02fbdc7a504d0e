-- Frames with their noise, as they stand in ten places, and sums over frames.
use Rattle.std.specs.Prelude.{ℕ, ◌+◌, ◌==◌, ◌≡◌, ◌<◌, ◌≤◌, List, [], ◌∷◌, ◌*◌, ◌%◌, ◌^◌, bit_xor, length, slice_index_or, Option, None, is_some, false, if◌then◌else◌, ℤ}
use Rattle.mlp_syntax.specs.declared.restart.Restart.{Restart}
use Rattle.mlp_syntax.specs.declared.params.MatrixRow.{MatrixRow}
use Rattle.mlp_matrix.specs.Noise.{noisy_each}

-- the noise behind the matrix channels of each frame, where the noise kind has any
abbrev pub with_noise : Restart → ℕ → List (List ℤ) → List (List ℤ)
with_noise r seed frames = if r.kind == 0 then noisy_each r.noise_shift (r.max_matrix + 1) seed frames else frames

-- no coefficient stands behind the first m places
abbrev pub HasNoneBehind : ℕ → List (Option ℤ) → Type 0
HasNoneBehind m coeffs =
    (k : ℕ) → m ≤ k → k < length coeffs → is_some (slice_index_or coeffs k None) ≡ false

-- no row has a coefficient for what stands behind the first m places
abbrev pub HearNone : ℕ → List MatrixRow → Type 0
HearNone m rows = (i : ℕ) (d : MatrixRow) → i < length rows
    → HasNoneBehind m (slice_index_or rows i d).coeffs.items

-- the check of sums without carries, one of whole words for each channel from c on
abbrev pub check_of_sums : ℕ → List ℕ → ℕ
check_of_sums c [] = 0
check_of_sums c (sum ∷ sums) = bit_xor (sum % 2 ^ 24 * 2 ^ c) (check_of_sums (c + 1) sums)
