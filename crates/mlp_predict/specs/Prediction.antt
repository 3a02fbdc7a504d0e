-- Prediction of a channel's samples from its latest outputs and differences. All lists of these have the latest first.
use Rattle.std.specs.Prelude.{ℕ, ◌<◌, ◌≤◌, ◌^◌, List, [], ◌∷◌, ◌++◌, length, take, drop, replicate, All, ℤ, pos, neg_ℤ, ◌+ℤ◌, ◌-ℤ◌, ◌*ℤ◌, ◌≤ℤ◌, ◌<ℤ◌}
use Rattle.mlp_arith.specs.Words.{floor_by, clear, wrap}

-- each coefficient times the value that it belongs to, the first to the latest; values that aren't there are 0
abbrev pub dot : List ℤ → List ℤ → ℤ
dot [] vs = pos 0
dot (c ∷ cs) [] = pos 0
dot (c ∷ cs) (v ∷ vs) = c *ℤ v +ℤ dot cs vs

-- the outputs and the differences of a channel so far
pub record Past : Type 0 where
  pub outputs : List ℤ
  pub differences : List ℤ

-- nothing since the restart
abbrev pub nothing : Past
nothing = record { outputs = []; differences = [] }

-- the coefficients of both filters, and the shift that they share
pub record Filters : Type 0 where
  pub fir : List ℤ
  pub iir : List ℤ
  pub shift : ℕ

-- the weighted sum of the past over 2^shift, rounded down
abbrev pub predicted : Filters → Past → ℤ
predicted f past = floor_by f.shift (dot f.fir past.outputs +ℤ dot f.iir past.differences)

-- the output that a residual gives
abbrev pub restored : Filters → Past → ℕ → ℤ → ℤ
restored f past step residual = wrap (clear step (predicted f past +ℤ residual))

-- what a sample has above its cleared prediction: its residual, where that has 32 signed bits
abbrev pub reduced : Filters → Past → ℕ → ℤ → ℤ
reduced f past step sample = sample -ℤ clear step (predicted f past)

-- the past after an output: its difference is what it has above its prediction
abbrev pub past_after : Filters → Past → ℤ → Past
past_after f past x =
    record { outputs = x ∷ past.outputs; differences = wrap (x -ℤ predicted f past) ∷ past.differences }

-- values with a state in the place of the latest ones
abbrev pub replaced : List ℤ → List ℤ → List ℤ
replaced state values = state ++ drop (length state) values

-- the past with a state, which replaces the latest differences
abbrev pub with_state : List ℤ → Past → Past
with_state state past = record past { differences = replaced state past.differences }

-- the latest m outputs and n differences
abbrev pub latest : ℕ → ℕ → Past → Past
latest m n past = record { outputs = take m past.outputs; differences = take n past.differences }

-- m outputs and n differences of 0
abbrev pub zeros : ℕ → ℕ → Past
zeros m n = record { outputs = replicate m (pos 0); differences = replicate n (pos 0) }

-- the past behind which there are m outputs and n differences of 0
abbrev pub with_zeros : ℕ → ℕ → Past → Past
with_zeros m n past = record {
  outputs = past.outputs ++ (zeros m n).outputs;
  differences = past.differences ++ (zeros m n).differences;
}

-- ---- a block of samples, in order

-- the outputs that residuals give, one after another
abbrev pub outputs_of : Filters → Past → ℕ → List ℤ → List ℤ
outputs_of f past step [] = []
outputs_of f past step (r ∷ rs) =
    restored f past step r ∷ outputs_of f (past_after f past (restored f past step r)) step rs

-- the residuals of samples, one after another
abbrev pub residuals_of : Filters → Past → ℕ → List ℤ → List ℤ
residuals_of f past step [] = []
residuals_of f past step (x ∷ xs) = reduced f past step x ∷ residuals_of f (past_after f past x) step xs

-- the past after outputs
abbrev pub past_of : Filters → Past → List ℤ → Past
past_of f past [] = past
past_of f past (x ∷ xs) = past_of f (past_after f past x) xs

-- ---- what may be handed in

-- a coefficient of 16 signed bits
pub record IsCoefficient (c : ℤ) : Type 0 where
  pub low : neg_ℤ (pos (2 ^ 15)) ≤ℤ c
  pub high : c <ℤ pos (2 ^ 15)

-- filters whose sums stay within 64 bits
pub record AreSmall (f : Filters) : Type 0 where
  pub fir : All IsCoefficient f.fir
  pub iir : All IsCoefficient f.iir
  pub fir_few : length f.fir ≤ 16
  pub iir_few : length f.iir ≤ 16
  pub shift : f.shift < 16
