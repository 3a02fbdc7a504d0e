-- Rows that look at the first places of a frame alone.
use Rattle.std.proofs.Common.{◌≡◌, ℕ, zero, suc, ◌+◌, ◌≤◌, List, [], ◌∷◌, length, take, map, ℤ, ◌+ℤ◌, arith, refl, sym, ◌∙◌, ap, Bool}
use Rattle.std.proofs.Math.ListN.{set}
use Rattle.mlp_arith.specs.Words.{floor_by, clear, wrap}
use Rattle.mlp_predict.specs.Prediction.{dot}
use Rattle.mlp_predict.proofs.Blocks.{dot-take}
use Rattle.mlp_syntax.specs.declared.params.MatrixRow.{MatrixRow}
use Rattle.mlp_matrix.specs.Matrix.{weights, weighted, bit_of, step_of, row_applied, has_bit, applied_from, applied, applied_each}
use Rattle.mlp_matrix.specs.Front.{AreWithin, MakeFront, MakeFronts}
use Rattle.mlp_matrix.proofs.Weights.{length-weights_of}

-- a value that is set is seen in the front, or lies behind it
pub take-set : (m : ℕ) (frame : List ℤ) (d : ℕ) (v : ℤ) → take m (set frame d v) ≡ set (take m frame) d v
take-set zero frame d v = refl
take-set (suc m) [] d v = refl
take-set (suc m) (x ∷ frame) zero v = refl
take-set (suc m) (x ∷ frame) (suc d) v = ap (λ ys. x ∷ ys) (take-set m frame d v)

take-weighted : (ws : List ℤ) (m dest step : ℕ) (bit : Bool) (frame : List ℤ) → length ws ≤ m → take m (weighted ws dest step bit frame) ≡ weighted ws dest step bit (take m frame)
take-weighted ws m dest step bit frame h =
    take-set m frame dest (wrap (clear step (floor_by 14 (dot ws frame)) +ℤ bit_of bit))
    ∙ ap (λ z. set (take m frame) dest (wrap (clear step (floor_by 14 z) +ℤ bit_of bit))) (sym (dot-take ws frame m h))

take-applied_from : (m i : ℕ) (rows : List MatrixRow) (steps : List ℕ) (bypass : ℕ) (frame : List ℤ) → AreWithin m rows →
    take m (applied_from i rows steps bypass frame) ≡ applied_from i rows steps bypass (take m frame)
take-applied_from m i [] steps bypass frame h = refl
take-applied_from m i (row ∷ rows) steps bypass frame h =
    take-applied_from m (i + 1) rows steps bypass (row_applied steps row (has_bit bypass i) frame)
    (λ j d l. h (suc j) d (omega arith))
    ∙ ap (applied_from (i + 1) rows steps bypass) (take-weighted (weights row) m row.dest (step_of steps row.dest) (has_bit bypass i) frame few)
  where
    few : length (weights row) ≤ m
    few = let k : length row.coeffs.items ≤ m = h 0 row (omega arith) in omega (arith, length-weights_of row.frac row.coeffs.items)

pub take-applied : (m : ℕ) (rows : List MatrixRow) → AreWithin m rows → MakeFront m rows
take-applied m rows h steps bypass frame = take-applied_from m 0 rows steps bypass frame h

-- .. of each frame
pub take-applied_each : (m : ℕ) (rows : List MatrixRow) → AreWithin m rows → MakeFronts m rows
take-applied_each m rows h steps bypass [] = refl
take-applied_each m rows h steps [] (frame ∷ frames) = refl
take-applied_each m rows h steps (bits ∷ bypass) (frame ∷ frames) =
    ap (λ x. x ∷ map (take m) (applied_each rows steps bypass frames)) (take-applied_from m 0 rows steps bits frame h)
    ∙ ap (λ xs. applied rows steps bits (take m frame) ∷ xs) (take-applied_each m rows h steps bypass frames)
