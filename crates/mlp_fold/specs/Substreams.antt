-- The substreams of a profile: their channels, and what holds of each of them.
use Rattle.std.specs.Prelude.{◌≡◌, ◌≤◌, ◌<◌, ℕ, zero, suc, ◌-◌, ◌==◌, List, ◌∷◌, ◌++◌, take, ℤ, if◌then◌else◌}
use Rattle.mlp_arith.specs.Words.{clear}
use Rattle.mlp_matrix.specs.Matrix.{step_of, applied, AreRows}
use Rattle.mlp_fold.specs.declared.profile.Mix.{Mix}
use Rattle.mlp_fold.specs.Profile.{AreMixed}
use Rattle.mlp_arith.specs.Ranges.{Is24}
use Rattle.mlp_fold.specs.Mix.{at, AreSamples, channels_of, shown, coded_of, bypass_of, presented_of}
use Rattle.mlp_fold.specs.Rows.{rows_of, steps_of}

-- the number of substreams for so many channels: 1 for 2, 2 for 6, 3 for 8
abbrev pub substreams_of : ℕ → ℕ
substreams_of channels = if channels == 2 then 1 else (if channels == 6 then 2 else 3)

-- the first channel that substream k codes: it stands behind those of the substreams below
abbrev pub first_channel : ℕ → ℕ
first_channel zero = 0
first_channel (suc k) = channels_of k

-- the last channel that substream k codes, which is its greatest matrix channel too
abbrev pub last_channel : ℕ → ℕ
last_channel k = channels_of k - 1

-- ---- what may hold of a substream

-- .. of each one of each profile that passes, by mix, depth, channels and substream
abbrev pub EachSubstream : (Mix → ℕ → ℕ → ℕ → Type 0) → Type 0
EachSubstream P =
    (mix : Mix) (depth channels k : ℕ) → AreMixed mix depth channels
    → channels_of k ≤ channels → P mix depth channels k

-- .. of the top one, which has all channels
abbrev pub EachTop : (Mix → ℕ → ℕ → ℕ → Type 0) → Type 0
EachTop P =
    (mix : Mix) (depth channels k : ℕ) → AreMixed mix depth channels
    → channels_of k ≡ channels → P mix depth channels k

-- its rows and steps can be applied to its channels
abbrev pub CanApply : Mix → ℕ → ℕ → ℕ → Type 0
CanApply mix depth channels k =
    AreRows (rows_of mix k channels) (steps_of mix (24 - depth) k) (channels_of k)

-- a coded value of its channels has no bits below its step
abbrev pub CodesByStep : Mix → ℕ → ℕ → ℕ → Type 0
CodesByStep mix depth channels k =
    (frame : List ℤ) (c : ℕ) → AreSamples (24 - depth) channels frame → c < channels_of k →
    clear (step_of (steps_of mix (24 - depth) k) c) (at (coded_of mix (24 - depth) channels frame) c)
    ≡ at (coded_of mix (24 - depth) channels frame) c

-- its rows make of the coded channels up to it, whatever stands behind them, its presentation
abbrev pub MakesPresented : Mix → ℕ → ℕ → ℕ → Type 0
MakesPresented mix depth channels k =
    (frame : List ℤ) (a b : ℤ) (more : List ℤ) → AreSamples (24 - depth) channels frame →
    take (channels_of k)
    (applied (rows_of mix k channels) (steps_of mix (24 - depth) k) (bypass_of mix frame)
    (take (channels_of k) (coded_of mix (24 - depth) channels frame) ++ a ∷ b ∷ more))
    ≡ take (channels_of k) (presented_of mix (24 - depth) channels k frame)

-- its presentation is the frame itself
abbrev pub PresentsAll : Mix → ℕ → ℕ → ℕ → Type 0
PresentsAll mix depth channels k =
    (frame : List ℤ) → presented_of mix (24 - depth) channels k frame ≡ shown channels frame

-- each value that its presentation shows has 24 signed bits
abbrev pub Presents24 : Mix → ℕ → ℕ → ℕ → Type 0
Presents24 mix depth channels k =
    (frame : List ℤ) (c : ℕ) → AreSamples (24 - depth) channels frame
    → Is24 (at (presented_of mix (24 - depth) channels k frame) c)
