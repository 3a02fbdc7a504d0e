-- The whole sequences of a coded channel since its restart, frame by frame.
use Rattle.std.specs.Prelude.{◌≡◌, ℕ, zero, suc, ◌≤◌, List, [], ◌∷◌, length, slice_index_or, ℤ, pos, ◌+ℤ◌, ◌-ℤ◌}
use Rattle.mlp_arith.specs.Words.{floor_by, clear, wrap}
use Rattle.mlp_predict.specs.Prediction.{dot, Filters, Past, nothing, predicted, restored, replaced, past_after, with_state, latest, zeros}

-- what a frame is restored by: the filters and the step in force in its block, its residual, and the differences
-- of a state that comes right before it
pub record Frame : Type 0 where
  pub filters : Filters
  pub step : ℕ
  pub state : List ℤ
  pub residual : ℤ

-- the values before frame i, the latest first
abbrev pub before : (ℕ → ℤ) → ℕ → List ℤ
before x zero = []
before x (suc i) = x i ∷ before x i

-- the differences before frame i, among them those of states that were given
abbrev pub left_by : (ℕ → Frame) → (ℕ → ℤ) → ℕ → List ℤ
left_by frames e zero = []
left_by frames e (suc i) = e i ∷ replaced (frames i).state (left_by frames e i)

-- the differences that frame i sees: its state replaces the latest of those before it
abbrev pub seen : (ℕ → Frame) → (ℕ → ℤ) → ℕ → List ℤ
seen frames e i = replaced (frames i).state (left_by frames e i)

-- x are the outputs, e the differences and p the predictions of the frames since a restart
pub record AreOutputs (frames : ℕ → Frame) (x e p : ℕ → ℤ) : Type 0 where
  pub predicted : (i : ℕ) → p i ≡ floor_by (frames i).filters.shift
      (dot (frames i).filters.fir (before x i) +ℤ dot (frames i).filters.iir (seen frames e i))
  pub output : (i : ℕ) → x i ≡ wrap (clear (frames i).step (p i +ℤ (frames i).residual))
  pub difference : (i : ℕ) → e i ≡ wrap (x i -ℤ p i)

-- ---- the same, by steps that keep only the latest m outputs and n differences, at first zeros

-- one frame's output, and the past after it
abbrev pub output_after : Past → Frame → ℤ
output_after past frame = restored frame.filters (with_state frame.state past) frame.step frame.residual

abbrev pub step_after : ℕ → ℕ → Past → Frame → Past
step_after m n past frame =
    latest m n (past_after frame.filters (with_state frame.state past) (output_after past frame))

-- the past that i frames leave
abbrev pub steps_after : ℕ → ℕ → (ℕ → Frame) → ℕ → Past
steps_after m n frames zero = zeros m n
steps_after m n frames (suc i) = step_after m n (steps_after m n frames i) (frames i)

-- the frame's filters have at most m and n coefficients, and its state at most n values
pub record IsWithin (m n : ℕ) (frame : Frame) : Type 0 where
  pub fir : length frame.filters.fir ≤ m
  pub iir : length frame.filters.iir ≤ n
  pub state : length frame.state ≤ n

abbrev pub AreWithin : ℕ → ℕ → (ℕ → Frame) → Type 0
AreWithin m n frames = (i : ℕ) → IsWithin m n (frames i)

-- ---- the sequences that there are: frame by frame, over all of the past

abbrev pub past_at : (ℕ → Frame) → ℕ → Past
past_at frames zero = nothing
past_at frames (suc i) = past_after (frames i).filters
    (with_state (frames i).state (past_at frames i)) (output_after (past_at frames i) (frames i))

abbrev pub outputs_at : (ℕ → Frame) → ℕ → ℤ
outputs_at frames i = output_after (past_at frames i) (frames i)

abbrev pub predictions_at : (ℕ → Frame) → ℕ → ℤ
predictions_at frames i = predicted (frames i).filters (with_state (frames i).state (past_at frames i))

abbrev pub differences_at : (ℕ → Frame) → ℕ → ℤ
differences_at frames i = wrap (outputs_at frames i -ℤ predictions_at frames i)

-- ---- a list of frames, from a past on, by the latest m outputs and n differences

-- the output of each frame
abbrev pub outputs_from : ℕ → ℕ → Past → List Frame → List ℤ
outputs_from m n past [] = []
outputs_from m n past (frame ∷ frames) =
    output_after past frame ∷ outputs_from m n (step_after m n past frame) frames

-- the past that the frames leave
abbrev pub past_from : ℕ → ℕ → Past → List Frame → Past
past_from m n past [] = past
past_from m n past (frame ∷ frames) = past_from m n (step_after m n past frame) frames

-- a frame whose output is 0
abbrev pub silence : Frame
silence = record { filters = record { fir = []; iir = []; shift = 0 }; step = 0; state = []; residual = pos 0 }

-- the frames of a list as a sequence, with silence behind them
abbrev pub frame_at : List Frame → ℕ → Frame
frame_at frames i = slice_index_or frames i silence

-- a frame for each residual, of one pair of filters and one step
abbrev pub block_of : Filters → ℕ → List ℤ → List Frame
block_of f step [] = []
block_of f step (r ∷ rs) = record { filters = f; step = step; state = []; residual = r } ∷ block_of f step rs

-- a state right before the first frame
abbrev pub with_state_first : List ℤ → List Frame → List Frame
with_state_first state [] = []
with_state_first state (frame ∷ frames) = record frame { state = state } ∷ frames
