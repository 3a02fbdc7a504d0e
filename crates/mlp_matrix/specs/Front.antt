-- Rows that look at the first places of frames alone.
use Rattle.std.specs.Prelude.{◌≡◌, ℕ, ◌-◌, ◌++◌, ◌≤◌, List, ℤ, pos, Option, length, map, take, replicate, All}
use Rattle.mlp_syntax.specs.declared.params.MatrixRow.{MatrixRow}
use Rattle.mlp_matrix.specs.Matrix.{weights_of, applied, applied_each}

-- the coefficients behind the first n weigh nothing
abbrev pub AreUsed : ℕ → List (Option ℤ) → Type 0
AreUsed n coeffs = (frac : ℕ) → weights_of frac coeffs
    ≡ weights_of frac (take n coeffs) ++ replicate (length coeffs - n) (pos 0)

-- no row has a coefficient for a place past the first m
abbrev pub AreWithin : ℕ → List MatrixRow → Type 0
AreWithin m rows = All (λ row. length row.coeffs.items ≤ m) rows

-- the first m places of what the rows make of a frame are what they make of its first m places
abbrev pub MakeFront : ℕ → List MatrixRow → Type 0
MakeFront m rows =
    (steps : List ℕ) (bypass : ℕ) (frame : List ℤ)
    → take m (applied rows steps bypass frame) ≡ applied rows steps bypass (take m frame)

-- .. of each frame
abbrev pub MakeFronts : ℕ → List MatrixRow → Type 0
MakeFronts m rows =
    (steps bypass : List ℕ) (frames : List (List ℤ)) →
    map (take m) (applied_each rows steps bypass frames) ≡ applied_each rows steps bypass (map (take m) frames)
