-- The rows and steps of the mixes. In substreams 0 and 1 two noise sources stand behind the channels.
use Rattle.std.specs.Prelude.{ℕ, zero, suc, ◌==◌, List, [], ◌∷◌, slice_set, ℤ, pos, neg_ℤ, Bool, true, false, Option, Some, None, if◌then◌else◌}
use Rattle.mlp_syntax.specs.declared.params.MatrixRow.{MatrixRow}
use Rattle.mlp_fold.specs.declared.profile.Mix.{Mix}
use Rattle.mlp_fold.specs.declared.profile.Mix.TheVariants.{Split, Fold, Bypass, Side}

abbrev pub row : ℕ → ℕ → Bool → List (Option ℤ) → MatrixRow
row dest frac bypass coeffs =
    record { dest = dest; frac = frac; bypass = bypass; coeffs = record { items = coeffs }; noise_shift = 0 }

-- coefficients on some sources, by number
abbrev pub placed : List (Option ℤ) → List (ℕ × ℤ) → List (Option ℤ)
placed coeffs [] = coeffs
placed coeffs ((source, c) ∷ more) = placed (slice_set coeffs source (Some c)) more

-- .. of eight
abbrev pub on : List (ℕ × ℤ) → List (Option ℤ)
on sources = placed (None ∷ None ∷ None ∷ None ∷ None ∷ None ∷ None ∷ None ∷ []) sources

-- a front channel with centre and a surround channel
abbrev pub left : ℤ → List (Option ℤ)
left surround = on ((0, pos 16384) ∷ (2, neg_ℤ (pos 11585)) ∷ (4, surround) ∷ [])

abbrev pub right : ℤ → List (Option ℤ)
right surround = on ((1, pos 16384) ∷ (2, neg_ℤ (pos 11585)) ∷ (5, surround) ∷ [])

abbrev pub fold_rows : ℕ → ℕ → List MatrixRow
fold_rows zero channels = row 0 14 false (Some (pos 6786) ∷ None ∷ None ∷ None ∷ [])
    ∷ row 1 14 false (None ∷ Some (pos 6786) ∷ None ∷ None ∷ []) ∷ []
fold_rows (suc zero) channels =
    if channels == 6
    then row 0 14 false (left (neg_ℤ (pos 11585))) ∷ row 1 14 false (right (neg_ℤ (pos 11585))) ∷ []
    else row 0 14 false (left (neg_ℤ (pos 5793))) ∷ row 1 14 false (right (neg_ℤ (pos 5793)))
    ∷ row 4 14 false (on ((4, pos 8192) ∷ [])) ∷ row 5 14 false (on ((5, pos 8192) ∷ [])) ∷ []
fold_rows (suc (suc k)) channels =
    row 0 14 false (left (neg_ℤ (pos 5793))) ∷ row 1 14 false (right (neg_ℤ (pos 5793)))
    ∷ row 4 14 false (on ((4, pos 16384) ∷ (6, neg_ℤ (pos 16384)) ∷ []))
    ∷ row 5 14 false (on ((5, pos 16384) ∷ (7, neg_ℤ (pos 16384)) ∷ [])) ∷ []

abbrev pub bypass_rows : ℕ → List MatrixRow
bypass_rows zero = []
bypass_rows (suc k) = row 2 0 true (on ((2, pos 1) ∷ [])) ∷ row 3 0 true (on ((3, pos 1) ∷ []))
    ∷ row 4 0 true (on ((4, pos 1) ∷ [])) ∷ row 5 0 true (on ((5, pos 1) ∷ [])) ∷ []

abbrev pub side_row : MatrixRow
side_row = row 1 0 false (Some (pos 1) ∷ Some (pos 1) ∷ None ∷ None ∷ [])

-- the rows of a substream
abbrev pub rows_of : Mix → ℕ → ℕ → List MatrixRow
rows_of Split substream channels = []
rows_of Fold substream channels = fold_rows substream channels
rows_of Bypass substream channels = bypass_rows substream
rows_of Side substream channels = side_row ∷ []

-- so many steps of q
abbrev pub steps_by : ℕ → ℕ → List ℕ
steps_by zero q = q ∷ q ∷ []
steps_by (suc zero) q = q ∷ q ∷ q ∷ q ∷ q ∷ q ∷ []
steps_by (suc (suc k)) q = q ∷ q ∷ q ∷ q ∷ q ∷ q ∷ q ∷ q ∷ []

abbrev pub bypass_steps : ℕ → List ℕ
bypass_steps zero = 0 ∷ 0 ∷ []
bypass_steps (suc k) = 0 ∷ 0 ∷ 1 ∷ 1 ∷ 1 ∷ 1 ∷ []

-- the steps of a substream, q being 24 less the depth
abbrev pub steps_of : Mix → ℕ → ℕ → List ℕ
steps_of Split q substream = steps_by substream q
steps_of Fold q substream = steps_by substream q
steps_of Bypass q substream = bypass_steps substream
steps_of Side q substream = steps_by substream q
