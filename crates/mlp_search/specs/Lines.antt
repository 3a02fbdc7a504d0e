-- A block in one line behind the latest outputs, the oldest first, in quantisation steps.
use Rattle.std.specs.Prelude.{◌≡◌, ℕ, List, [], ◌∷◌, ◌++◌, map, length, take, drop, reverse, All, ℤ, pos, neg_ℤ, ◌-ℤ◌, ◌≤ℤ◌, ◌≤◌, unsigned_abs}
use Rattle.mlp_arith.specs.Words.{floor_by, clear}
use Rattle.mlp_arith.specs.Ranges.{Is26}
use Rattle.mlp_predict.specs.Prediction.{Filters, Past, dot, residuals_of}
use Rattle.mlp_predict.specs.Filters.{scaled}
use Rattle.mlp_predict.specs.Lines.{past_in}
use Rattle.mlp_search.specs.declared.line.Line.{Line}
use Rattle.mlp_search.specs.Folded.{stepped}

-- what a value has above its multiple of 2^13
abbrev pub low_part : ℤ → ℤ
low_part v = v -ℤ clear 13 v

-- a block behind 8 outputs, and the high and the low parts of all
pub record IsLine (step : ℕ) (past : Past) (samples whole high low : List ℤ) : Type 0 where
  pub eight : length past.outputs ≡ 8
  pub steps : map (stepped step) whole ≡ reverse past.outputs ++ samples
  pub small : All Is26 (map (stepped step) whole)
  pub words : All Is26 whole
  pub high_parts : high ≡ map (floor_by 13) whole
  pub low_parts : low ≡ map low_part whole

-- no value is farther from 0 than this
abbrev pub AreNear : ℕ → List ℤ → Type 0
AreNear far vs = All (λ v. unsigned_abs v ≤ far) vs

-- these are the parts of a line
pub record IsIn (step : ℕ) (past : Past) (samples : List ℤ) (line : Line) : Type 0 where
  pub parts : IsLine step past samples line.whole.now line.high.now line.low.now
  pub near : AreNear line.far line.whole.now

-- no sum of so many last values, times these coefficients, is too far from 0 for 32 bits
abbrev pub AreShort : List ℤ → List ℤ → Type 0
AreShort fir whole = (n : ℕ) → unsigned_abs (dot fir (reverse (take n whole))) ≤ 2013265920

-- a FIR of these coefficients, without an IIR
abbrev pub alone_by : List ℤ → ℕ → Filters
alone_by fir shift = record { fir = fir; iir = []; shift = shift }

-- what filters leave of a block behind 8 outputs
abbrev pub left_in : Filters → List ℤ → List ℤ
left_in f whole = residuals_of f (past_in (take 8 whole) []) 0 (drop 8 whole)

-- a FIR of 4 times these coefficients, over 4, beside an IIR that takes half of the latest difference away
abbrev pub halving : List ℤ → Filters
halving quarters = record { fir = scaled 2 quarters; iir = neg_ℤ (pos 2) ∷ []; shift = 2 }

-- How far predictions are above their samples, by the rises of these, in quantisation steps: what they have above
-- predictions without an IIR. Each is half of the one before, rounded down, less the rise.
abbrev pub excesses : ℕ → ℤ → List ℤ → List ℤ
excesses step excess [] = []
excesses step excess (d ∷ ds) =
    (floor_by 1 excess -ℤ stepped step d) ∷ excesses step (floor_by 1 excess -ℤ stepped step d) ds

-- a coefficient of a size of at most 15
pub record IsLight (c : ℤ) : Type 0 where
  pub low : neg_ℤ (pos 15) ≤ℤ c
  pub high : c ≤ℤ pos 15
