-- Rows without coefficients for the noise make of a frame's channels what they make of these alone.
use Rattle.std.proofs.Common.{◌≡◌, ℕ, zero, suc, ◌+◌, List, [], ◌∷◌, take, ℤ, pos, ◌*ℤ◌, ◌+ℤ◌, arith, refl, sym, ◌∙◌, ap, Bool, Option, Some, None}
use Rattle.std.proofs.Math.ListN.{set}
use Rattle.std.proofs.lemmas.Int.{ints}
use Rattle.mlp_arith.specs.Words.{floor_by, clear, wrap}
use Rattle.mlp_predict.specs.Prediction.{dot}
use Rattle.mlp_syntax.specs.declared.params.MatrixRow.{MatrixRow}
use Rattle.mlp_matrix.specs.Matrix.{weight, weights_of, weighted, bit_of, step_of, row_applied, has_bit, applied_from, applied}
use Rattle.mlp_matrix.proofs.Fronts.{take-set}
use Rattle.mlp_output.specs.Frames.{HasNoneBehind, HearNone}

-- without coefficients there is no sum
dot-none : (frac : ℕ) (cs : List (Option ℤ)) (frame : List ℤ) → HasNoneBehind 0 cs → dot (weights_of frac cs) frame ≡ pos 0
dot-none frac [] frame h = refl
dot-none frac (c ∷ cs) [] h = refl
dot-none frac (None ∷ cs) (x ∷ frame) h = let e : dot (weights_of frac cs) frame ≡ pos 0 = dot-none frac cs frame (λ k l m. h (suc k) (omega arith) (omega arith)) in omega (arith, ints, e)
dot-none frac (Some c ∷ cs) (x ∷ frame) h = let no = h 0 (omega arith) (omega arith) in absurd (cc)

-- the sum looks at the places that have coefficients
dot-behind : (frac : ℕ) (cs : List (Option ℤ)) (frame : List ℤ) (m : ℕ) → HasNoneBehind m cs → dot (weights_of frac cs) (take m frame) ≡ dot (weights_of frac cs) frame
dot-behind frac cs frame zero h = dot-none frac cs [] h ∙ sym (dot-none frac cs frame h)
dot-behind frac [] frame (suc m) h = refl
dot-behind frac (c ∷ cs) [] (suc m) h = refl
dot-behind frac (c ∷ cs) (x ∷ frame) (suc m) h = ap (λ z. weight frac c *ℤ x +ℤ z) (dot-behind frac cs frame m (λ k l n. h (suc k) (omega arith) (omega arith)))

take-weighted : (frac : ℕ) (cs : List (Option ℤ)) (m dest step : ℕ) (bit : Bool) (frame : List ℤ) → HasNoneBehind m cs →
    take m (weighted (weights_of frac cs) dest step bit frame) ≡ weighted (weights_of frac cs) dest step bit (take m frame)
take-weighted frac cs m dest step bit frame h =
    take-set m frame dest (wrap (clear step (floor_by 14 (dot (weights_of frac cs) frame)) +ℤ bit_of bit))
    ∙ ap (λ z. set (take m frame) dest (wrap (clear step (floor_by 14 z) +ℤ bit_of bit))) (sym (dot-behind frac cs frame m h))

take-unheard_from : (m i : ℕ) (rows : List MatrixRow) (steps : List ℕ) (bypass : ℕ) (frame : List ℤ) → HearNone m rows →
    take m (applied_from i rows steps bypass frame) ≡ applied_from i rows steps bypass (take m frame)
take-unheard_from m i [] steps bypass frame h = refl
take-unheard_from m i (row ∷ rows) steps bypass frame h =
    take-unheard_from m (i + 1) rows steps bypass (row_applied steps row (has_bit bypass i) frame)
    (λ j d l. h (suc j) d (omega arith))
    ∙ ap (applied_from (i + 1) rows steps bypass) (take-weighted row.frac row.coeffs.items m row.dest (step_of steps row.dest) (has_bit bypass i) frame (h 0 row (omega arith)))

pub take-unheard : (m : ℕ) (rows : List MatrixRow) (steps : List ℕ) (bypass : ℕ) (frame : List ℤ) → HearNone m rows →
    take m (applied rows steps bypass frame) ≡ applied rows steps bypass (take m frame)
take-unheard m rows steps bypass frame h = take-unheard_from m 0 rows steps bypass frame h
