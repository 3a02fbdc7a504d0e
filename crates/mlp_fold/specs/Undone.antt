-- The rows of a substream undone, from the last to the first: what an encoder does to a frame of PCM.
use Rattle.std.specs.Prelude.{◌≡◌, ℕ, ◌+◌, ◌-◌, ◌*◌, List, [], ◌∷◌, ◌++◌, ℤ, cond}
use Rattle.mlp_syntax.specs.declared.params.MatrixRow.{MatrixRow}
use Rattle.mlp_matrix.specs.Matrix.{step_of, row_undone, bit_undone}
use Rattle.mlp_fold.specs.declared.profile.Mix.{Mix}
use Rattle.mlp_fold.specs.Mix.{AreSamples, shown, coded_of, bypass_of}
use Rattle.mlp_fold.specs.Rows.{rows_of, steps_of}

-- the rows behind a row are undone before it
abbrev pub undone : List MatrixRow → List ℕ → List ℤ → List ℤ
undone [] steps frame = frame
undone (row ∷ rows) steps frame = row_undone row (step_of steps row.dest) (undone rows steps frame)

-- the bits that the rows add: bit i is that of the row at place i
abbrev pub undone_bits : List MatrixRow → List ℕ → List ℤ → ℕ
undone_bits [] steps frame = 0
undone_bits (row ∷ rows) steps frame =
    cond (bit_undone row (step_of steps row.dest) (undone rows steps frame)) 1 0 + 2 * undone_bits rows steps frame

-- the rows of the top substream k, undone at a frame of PCM, give what is coded of it
abbrev pub UndoesToCoded : Mix → ℕ → ℕ → ℕ → Type 0
UndoesToCoded mix depth channels k =
    (frame more : List ℤ) → AreSamples (24 - depth) channels frame →
    undone (rows_of mix k channels) (steps_of mix (24 - depth) k) (shown channels frame ++ more)
    ≡ coded_of mix (24 - depth) channels frame ++ more

-- .. and its bypassed bits
abbrev pub UndoesToBits : Mix → ℕ → ℕ → ℕ → Type 0
UndoesToBits mix depth channels k =
    (frame more : List ℤ) → AreSamples (24 - depth) channels frame →
    undone_bits (rows_of mix k channels) (steps_of mix (24 - depth) k) (shown channels frame ++ more)
    ≡ bypass_of mix frame
