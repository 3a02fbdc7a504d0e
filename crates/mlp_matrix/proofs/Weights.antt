-- Weights, and zeros behind them.
use Rattle.std.proofs.Common.{◌≡◌, ℕ, zero, suc, ◌+◌, ◌-◌, ◌<◌, ◌≤◌, List, [], ◌∷◌, ◌++◌, length, take, get_or, ℤ, pos, ◌+ℤ◌, arith, refl, sym, ◌∙◌, ap, add-one, replicate, append_assoc, Option, None, Some, is_some, false, Bool}
use Rattle.std.proofs.Math.ListN.{set}
use Rattle.std.proofs.Math.Seq.{set-append_seam}
use Rattle.std.proofs.lemmas.List.{length-take-le}
use Rattle.mlp_arith.specs.Words.{floor_by, clear, wrap}
use Rattle.mlp_predict.proofs.Scaling.{dot-zeros}
use Rattle.mlp_matrix.specs.Front.{AreUsed}
use Rattle.mlp_matrix.specs.Matrix.{weight, weights_of, bit_of, weighted}

pub length-weights_of : (frac : ℕ) (cs : List (Option ℤ)) → length (weights_of frac cs) ≡ length cs
length-weights_of frac [] = refl
length-weights_of frac (c ∷ cs) = ap suc (length-weights_of frac cs)

pub get_or-weights_of : (frac : ℕ) (cs : List (Option ℤ)) (i : ℕ) (d : ℤ) → i < length cs → get_or (weights_of frac cs) i d ≡ weight frac (get_or cs i None)
get_or-weights_of frac [] i d h = absurd (omega arith)
get_or-weights_of frac (c ∷ cs) zero d h = refl
get_or-weights_of frac (c ∷ cs) (suc i) d h = get_or-weights_of frac cs i d (omega arith)

take_suc-weights_of : (frac : ℕ) (cs : List (Option ℤ)) (i : ℕ) → i < length cs → weights_of frac (take (suc i) cs) ≡ weights_of frac (take i cs) ++ weight frac (get_or cs i None) ∷ []
take_suc-weights_of frac [] i h = absurd (omega arith)
take_suc-weights_of frac (c ∷ cs) zero h = refl
take_suc-weights_of frac (c ∷ cs) (suc i) h = ap (λ ys. weight frac c ∷ ys) (take_suc-weights_of frac cs i (omega arith))

-- one weight more in front of the zeros
pub weight_filled : (frac n : ℕ) (cs : List (Option ℤ)) (i : ℕ) → i < length cs → length cs ≤ n →
    set (weights_of frac (take i cs) ++ replicate (n - i) (pos 0)) i (weight frac (get_or cs i None)) ≡ weights_of frac (take (i + 1) cs) ++ replicate (n - (i + 1)) (pos 0)
weight_filled frac n cs i h k =
    let front : List ℤ = weights_of frac (take i cs) in
    let x : ℤ = weight frac (get_or cs i None) in
    let e : length front ≡ i = length-weights_of frac (take i cs) ∙ length-take-le i cs (omega arith) in
    rw (add-one, take_suc-weights_of frac cs i h)
    (ap (λ (j : ℕ). set (front ++ replicate j (pos 0)) i x) (let m : n - i ≡ suc (n - suc i) = omega arith in m)
    ∙ ap (λ (j : ℕ). set (front ++ replicate (suc (n - suc i)) (pos 0)) j x) (sym e)
    ∙ set-append_seam front (pos 0) (replicate (n - suc i) (pos 0)) x
    ∙ sym (append_assoc front (x ∷ []) (replicate (n - suc i) (pos 0))))

-- zeros behind the weights change nothing
pub weighted-zeros : (ws : List ℤ) (n dest step : ℕ) (bit : Bool) (frame : List ℤ) → weighted (ws ++ replicate n (pos 0)) dest step bit frame ≡ weighted ws dest step bit frame
weighted-zeros ws n dest step bit frame = ap (λ z. set frame dest (wrap (clear step (floor_by 14 z) +ℤ bit_of bit))) (dot-zeros ws frame n)

-- ---- coefficients that are left out

pub all_used : (cs : List (Option ℤ)) → AreUsed (length cs) cs
all_used [] = λ frac. refl
all_used (c ∷ cs) = λ frac.
    let e : suc (length cs) - suc (length cs) ≡ length cs - length cs = omega arith in
    rw e (ap (λ ys. weight frac c ∷ ys) (all_used cs frac))

none_weighs : (frac : ℕ) (o : Option ℤ) → is_some o ≡ false → weight frac o ≡ pos 0
none_weighs frac None h = refl
none_weighs frac (Some x) h = absurd (cc)

-- one fewer, where the last one is left out
pub fewer_used : (cs : List (Option ℤ)) (k : ℕ) → k < length cs → is_some (get_or cs k None) ≡ false → AreUsed (suc k) cs → AreUsed k cs
fewer_used cs k l none h = λ frac.
    h frac
    ∙ ap (λ ys. ys ++ replicate (length cs - suc k) (pos 0)) (take_suc-weights_of frac cs k l ∙ ap (λ z. weights_of frac (take k cs) ++ z ∷ []) (none_weighs frac (get_or cs k None) none))
    ∙ append_assoc (weights_of frac (take k cs)) (pos 0 ∷ []) (replicate (length cs - suc k) (pos 0))
    ∙ ap (λ (n : ℕ). weights_of frac (take k cs) ++ replicate n (pos 0)) (let n : suc (length cs - suc k) ≡ length cs - k = omega arith in n)
