-- Values of one channel beside those of the others.
use Rattle.std.specs.Prelude.{ℕ, List, [], ◌∷◌, slice_set, ℤ}

-- a value for channel c in each frame
abbrev pub with_column : ℕ → List ℤ → List (List ℤ) → List (List ℤ)
with_column c [] frames = frames
with_column c (v ∷ values) [] = []
with_column c (v ∷ values) (frame ∷ frames) = slice_set frame c v ∷ with_column c values frames
