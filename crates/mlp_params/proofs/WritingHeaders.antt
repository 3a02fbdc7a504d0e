-- The text of a restart header.
use Rattle.std.proofs.Common.{◌≡◌, ℕ, zero, suc, ◌+◌, ◌<◌, ◌^◌, List, [], ◌∷◌, ◌++◌, Bool, refl, ap}
use Rattle.mlp_syntax.specs.declared.major.Kind.{Kind}
use Rattle.mlp_syntax.specs.declared.restart.Restart.{Restart}
use Rattle.mlp_bits.specs.Bits.{digit}
use Rattle.mlp_layout.specs.Layout.{number_of, seen, ruled, part, made, item}
use Rattle.mlp_layout.specs.Combined.{flag, fixed, series, times}
use Rattle.mlp_params.specs.RestartHeader.{assigned, restart_fields}
use Rattle.mlp_layout.proofs.WritingGroups.{fields}

-- the rule on output channels doesn't show in the text
pub assigned_fit : (m n : ℕ) (before xs : List ℕ) → (series (assigned m) n before).Fits xs → (times n (number_of 6)).Fits xs
unfolding series times item made ruled
assigned_fit m zero before xs h = h
assigned_fit m (suc n) before [] h = absurd h
assigned_fit m (suc n) before (x ∷ xs) h = (h.0, assigned_fit m n (before ++ x ∷ []) xs h.1)

pub assigned_text : (m n : ℕ) (before xs : List ℕ) → (times n (number_of 6)).spelling xs ≡ (series (assigned m) n before).spelling xs
unfolding series times item made ruled
assigned_text m zero before xs = refl
assigned_text m (suc n) before [] = refl
assigned_text m (suc n) before (x ∷ xs) = ap (λ (t : List Bool). (number_of 6).spelling x ++ t) (assigned_text m n (before ++ x ∷ []) xs)

abbrev pub header_fields : Restart → List (ℕ × ℕ)
header_fields r = (0x18F5, 13) ∷ (r.kind, 1) ∷ (r.output_timing, 16) ∷ (r.min, 4) ∷ (r.max, 4) ∷ (r.max_matrix, 4)
    ∷ (r.noise_shift, 4) ∷ (r.seed, 23) ∷ (r.carried_a, 19) ∷ (digit r.data_check, 1) ∷ (r.lossless, 8) ∷ (r.carried_b, 16) ∷ []

pub header_text : (format : Kind) (r : Restart) → fields (header_fields r) ((series (assigned r.max_matrix) (r.max_matrix + 1) []).spelling r.assign.items ++ []) ≡ (restart_fields format).spelling r
unfolding restart_fields fixed part ruled number_of flag seen made
header_text format r = refl

pub record HeaderFits (r : Restart) : Type 0 where
  pub kind : r.kind < 2 ^ 1
  pub min : r.min < 2 ^ 4
  pub max : r.max < 2 ^ 4
  pub max_matrix : r.max_matrix < 2 ^ 4
  pub noise_shift : r.noise_shift < 2 ^ 4
  pub output_timing : r.output_timing < 2 ^ 16
  pub seed : r.seed < 2 ^ 23
  pub carried_a : r.carried_a < 2 ^ 19
  pub lossless : r.lossless < 2 ^ 8
  pub carried_b : r.carried_b < 2 ^ 16
  pub assign : (times (r.max_matrix + 1) (number_of 6)).Fits r.assign.items

pub header_fits : (format : Kind) (r : Restart) → (restart_fields format).Fits r → HeaderFits r
unfolding restart_fields fixed part ruled number_of
header_fits format r h =
    let a = h.1 in
    let b = a.1.1.1.1.1 in
    let d = b.1.1.1.1.1.1 in
    record {
      kind = a.0;
      output_timing = a.1.0;
      min = a.1.1.0;
      max = a.1.1.1.0;
      max_matrix = a.1.1.1.1.0;
      noise_shift = b.0;
      seed = b.1.0;
      carried_a = b.1.1.0;
      lossless = b.1.1.1.1.0;
      carried_b = b.1.1.1.1.1.0;
      assign = assigned_fit r.max_matrix (r.max_matrix + 1) [] r.assign.items d.0;
    }
