-- The rows of matrices over a frame, which is the list of its channels and, behind them, of its noise values.
use Rattle.std.specs.Prelude.{◌≡◌, ℕ, ◌+◌, ◌-◌, ◌/◌, ◌%◌, ◌<◌, ◌≤◌, ◌^◌, ◌==◌, List, [], ◌∷◌, length, slice_index_or, slice_set, ◌&&◌, not, ℤ, pos, negsuc, ◌+ℤ◌, ◌-ℤ◌, ◌*ℤ◌, Bool, cond, Option, Some, None, All}
use Rattle.mlp_arith.specs.Words.{floor_by, clear, wrap}
use Rattle.mlp_predict.specs.Prediction.{dot, IsCoefficient}
use Rattle.mlp_syntax.specs.declared.params.MatrixRow.{MatrixRow}

-- ---- one row

-- a weight over 2^14: the coefficient times 2^(14 - fraction bits), 0 where there is none
abbrev pub weight : ℕ → Option ℤ → ℤ
weight frac None = pos 0
weight frac (Some c) = c *ℤ pos (2 ^ (14 - frac))

abbrev pub weights_of : ℕ → List (Option ℤ) → List ℤ
weights_of frac [] = []
weights_of frac (c ∷ cs) = weight frac c ∷ weights_of frac cs

abbrev pub weights : MatrixRow → List ℤ
weights row = weights_of row.frac row.coeffs.items

-- a flag as a number
abbrev pub bit_of : Bool → ℤ
bit_of b = cond b (pos 1) (pos 0)

-- what weights make of a frame: the sum over 2^14, rounded down, without its low `step` bits, and a bypassed bit
abbrev pub row_value : List ℤ → ℕ → Bool → List ℤ → ℤ
row_value ws step bit frame = wrap (clear step (floor_by 14 (dot ws frame)) +ℤ bit_of bit)

-- .. at its destination
abbrev pub weighted : List ℤ → ℕ → ℕ → Bool → List ℤ → List ℤ
weighted ws dest step bit frame = slice_set frame dest (row_value ws step bit frame)

-- the step of a channel
abbrev pub step_of : List ℕ → ℕ → ℕ
step_of steps channel = slice_index_or steps channel 0

abbrev pub row_applied : List ℕ → MatrixRow → Bool → List ℤ → List ℤ
row_applied steps row bit frame = weighted (weights row) row.dest (step_of steps row.dest) bit frame

-- ---- the rows in order: row i takes bit i of the frame's bypassed bits

abbrev pub has_bit : ℕ → ℕ → Bool
has_bit bits i = bits / 2 ^ i % 2 == 1

abbrev pub applied_from : ℕ → List MatrixRow → List ℕ → ℕ → List ℤ → List ℤ
applied_from i [] steps bypass frame = frame
applied_from i (row ∷ rows) steps bypass frame =
    applied_from (i + 1) rows steps bypass (row_applied steps row (has_bit bypass i) frame)

abbrev pub applied : List MatrixRow → List ℕ → ℕ → List ℤ → List ℤ
applied rows steps bypass frame = applied_from 0 rows steps bypass frame

-- many frames, each with its own bits
abbrev pub applied_each_from : ℕ → List MatrixRow → List ℕ → List ℕ → List (List ℤ) → List (List ℤ)
applied_each_from i rows steps bypass [] = []
applied_each_from i rows steps [] (frame ∷ frames) = frame ∷ frames
applied_each_from i rows steps (bits ∷ bypass) (frame ∷ frames) =
    applied_from i rows steps bits frame ∷ applied_each_from i rows steps bypass frames

abbrev pub applied_each : List MatrixRow → List ℕ → List ℕ → List (List ℤ) → List (List ℤ)
applied_each rows steps bypass frames = applied_each_from 0 rows steps bypass frames

-- weights of the row at place i over many frames
abbrev pub weighted_each : List ℤ → ℕ → ℕ → ℕ → List ℕ → List (List ℤ) → List (List ℤ)
weighted_each ws dest step i bypass [] = []
weighted_each ws dest step i [] (frame ∷ frames) = frame ∷ frames
weighted_each ws dest step i (bits ∷ bypass) (frame ∷ frames) =
    weighted ws dest step (has_bit bits i) frame ∷ weighted_each ws dest step i bypass frames

-- ---- a row undone

-- the value from which weights with 2^14 at `dest` make y there
abbrev pub lifted : List ℤ → ℕ → ℕ → List ℤ → ℤ → ℤ
lifted ws dest step frame y = wrap (clear step y -ℤ clear step (floor_by 14 (dot ws (slice_set frame dest (pos 0)))))

-- is it a multiple of 2?
abbrev pub is_even : ℤ → Bool
is_even (pos n) = n % 2 == 0
is_even (negsuc n) = n % 2 == 1

-- the bit that a row adds after the step: the value's lowest one, where the row has bypass and step 1
abbrev pub bypassed : Bool → ℕ → ℤ → Bool
bypassed bypass step y = bypass && (step == 1) && not (is_even y)

-- a frame with the value from which the row makes the one that stands at its destination
abbrev pub row_undone : MatrixRow → ℕ → List ℤ → List ℤ
row_undone row step frame =
    slice_set frame row.dest (lifted (weights row) row.dest step frame (slice_index_or frame row.dest (pos 0)))

-- .. and the bit that the row adds there
abbrev pub bit_undone : MatrixRow → ℕ → List ℤ → Bool
bit_undone row step frame = bypassed row.bypass step (slice_index_or frame row.dest (pos 0))

-- ---- what may be handed in: it holds of all that a stream can carry

-- a row for so many channels, whose weights have 16 signed bits
pub record IsRow (channels : ℕ) (row : MatrixRow) : Type 0 where
  pub dest : row.dest < channels
  pub frac : row.frac ≤ 14
  pub small : All IsCoefficient (weights_of row.frac row.coeffs.items)

-- rows, steps and channels that belong together
pub record AreRows (rows : List MatrixRow) (steps : List ℕ) (channels : ℕ) : Type 0 where
  pub few : length rows ≤ 8
  pub channels_few : channels ≤ 8
  pub each : (i : ℕ) (d : MatrixRow) → i < length rows → IsRow channels (slice_index_or rows i d)
  pub steps_there : channels ≤ length steps
  pub steps_small : All (λ s. s < 16) steps

-- a row that can be undone at a frame: weight 1 at its destination, and no low bits there but a bypassed one
pub record IsLift (row : MatrixRow) (step : ℕ) (frame : List ℤ) : Type 0 where
  pub one : slice_index_or (weights_of row.frac row.coeffs.items) row.dest (pos 0) ≡ pos 16384
  pub cleared :
      slice_index_or frame row.dest (pos 0)
      ≡ clear step (slice_index_or frame row.dest (pos 0)) +ℤ bit_of (bit_undone row step frame)
