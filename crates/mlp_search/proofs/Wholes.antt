-- Residuals of samples that are whole steps are whole steps.
use Rattle.std.proofs.Common.{◌≡◌, ℕ, suc, ◌^◌, ℤ, pos, ◌+ℤ◌, ◌-ℤ◌, ◌*ℤ◌, List, [], ◌∷◌, arith, ◌∙◌, ap}
use Rattle.std.specs.Prelude.{All}
use Rattle.std.proofs.lemmas.Int.{ints}
use Rattle.std.proofs.lemmas.List.Elements.{All-cons}
use Rattle.mlp_arith.specs.Words.{floor_by, clear}
use Rattle.mlp_arith.proofs.Floors.{add-mul}
use Rattle.mlp_predict.specs.Prediction.{Filters, Past, predicted, reduced, past_after, residuals_of}
use Rattle.mlp_residual.proofs.Codes.{clear_whole}

whole_less : (step : ℕ) (x p : ℤ) → clear step x ≡ x → clear step (x -ℤ clear step p) ≡ x -ℤ clear step p
whole_less step x p e =
    let both : (floor_by step x -ℤ floor_by step p +ℤ floor_by step p) *ℤ pos (2 ^ step) ≡ (floor_by step x -ℤ floor_by step p) *ℤ pos (2 ^ step) +ℤ clear step p =
    add-mul (floor_by step x -ℤ floor_by step p) (floor_by step p) (pos (2 ^ step))
    in
    let whole : (floor_by step x -ℤ floor_by step p +ℤ floor_by step p) *ℤ pos (2 ^ step) ≡ x =
    ap (λ (z : ℤ). z *ℤ pos (2 ^ step)) (let s : floor_by step x -ℤ floor_by step p +ℤ floor_by step p ≡ floor_by step x = omega (arith, ints) in s) ∙ e
    in
    let steps : (floor_by step x -ℤ floor_by step p) *ℤ pos (2 ^ step) ≡ x -ℤ clear step p = omega (arith, ints, both, whole) in
    clear_whole step (floor_by step x -ℤ floor_by step p) (x -ℤ clear step p) steps

pub residuals_whole : (f : Filters) (past : Past) (step : ℕ) (xs : List ℤ) → All (λ x. clear step x ≡ x) xs → All (λ r. clear step r ≡ r) (residuals_of f past step xs)
residuals_whole f past step [] h = λ i d l. absurd (omega (arith, l))
residuals_whole f past step (x ∷ xs) h =
    All-cons (λ (r : ℤ). clear step r ≡ r) (reduced f past step x) (residuals_of f (past_after f past x) step xs) (whole_less step x (predicted f past) (h 0 x (omega arith)))
    (residuals_whole f (past_after f past x) step xs (λ i d l. h (suc i) d (omega (arith, l))))
