-- A row undone, and applied again.
use Rattle.std.proofs.Common.{◌≡◌, ℕ, zero, suc, ◌+◌, ◌-◌, ◌*◌, ◌<◌, ◌≤◌, ◌^◌, List, [], ◌∷◌, length, get_or, ℤ, pos, ◌+ℤ◌, ◌-ℤ◌, ◌*ℤ◌, FitsSigned, arith, refl, sym, ◌∙◌, ap, Bool}
use Rattle.std.proofs.Math.ListN.{set}
use Rattle.std.proofs.lemmas.Int.{ints, int_wrap_fits}
use Rattle.std.specs.Int.Signed.{shr_z}
use Rattle.std.specs.Int.{int_shr, w32}
use Rattle.std.proofs.Math.Pow.{pow-add}
use Rattle.mlp_arith.specs.Words.{clear, wrap}
use Rattle.mlp_arith.proofs.Residues.{clear_add, clear_rest, wrap_multiple, wrap_away}
use Rattle.mlp_arith.proofs.Floors.{floor_add, add-mul}
use borrow.Author.Differences.{product_is}
use Rattle.mlp_predict.specs.Prediction.{dot}
use Rattle.std.proofs.Common.{◌++◌, replicate, Option}
use Rattle.mlp_predict.proofs.Scaling.{dot-zeros}
use Rattle.mlp_syntax.specs.declared.params.MatrixRow.{MatrixRow}
use Rattle.mlp_matrix.specs.Matrix.{weights_of, weights, row_value, weighted, lifted, bit_of}

-- the sum with one value apart
pub dot_apart : (ws xs : List ℤ) (d : ℕ) (y : ℤ) → d < length ws → length ws ≤ length xs → dot ws (set xs d y) ≡ get_or ws d (pos 0) *ℤ y +ℤ dot ws (set xs d (pos 0))
dot_apart [] xs d y h k = absurd (omega arith)
dot_apart (w ∷ ws) [] d y h k = absurd (omega arith)
dot_apart (w ∷ ws) (x ∷ xs) zero y h k = omega (arith, ints)
dot_apart (w ∷ ws) (x ∷ xs) (suc d) y h k = let e = dot_apart ws xs d y (omega arith) (omega arith) in omega (arith, ints, e)

mul_assoc : (k : ℤ) (m n : ℕ) → (k *ℤ pos m) *ℤ pos n ≡ k *ℤ pos (m * n)
mul_assoc k m n =
    omega (arith, ints, product_is (k *ℤ pos m) (pos n), product_is k (pos (m * n)), ap (λ z. z * n) (product_is k (pos m)).0, ap (λ z. z * n) (product_is k (pos m)).1)

-- the value is made again
pub made_again : (q : ℕ) (y f b : ℤ) → q < 16 → FitsSigned w32 y → y ≡ clear q y +ℤ b → wrap (clear q (wrap (clear q y -ℤ clear q f) +ℤ f) +ℤ b) ≡ y
made_again q y f b l fits e =
    let a = wrap_away (clear q y -ℤ clear q f) in
    let k : ℤ = a.0 in
    let p : 4294967296 ≡ 2 ^ (32 - q) * 2 ^ q = ap (λ n. 2 ^ n) (let s : 32 ≡ (32 - q) + q = omega arith in s) ∙ pow-add 2 (32 - q) q in
    let m : k *ℤ pos 4294967296 ≡ (k *ℤ pos (2 ^ (32 - q))) *ℤ pos (2 ^ q) = ap (λ n. k *ℤ pos n) p ∙ sym (mul_assoc k (2 ^ (32 - q)) (2 ^ q)) in
    let j : ℤ = shr_z y (2 ^ q) +ℤ k *ℤ pos (2 ^ (32 - q)) in
    let d : j *ℤ pos (2 ^ q) ≡ clear q y +ℤ k *ℤ pos 4294967296 = add-mul (shr_z y (2 ^ q)) (k *ℤ pos (2 ^ (32 - q))) (pos (2 ^ q)) ∙ ap (λ z. clear q y +ℤ z) (sym m) in
    let inner : wrap (clear q y -ℤ clear q f) +ℤ f ≡ (f -ℤ clear q f) +ℤ j *ℤ pos (2 ^ q) = omega (arith, ints, a.1, d) in
    let cleared : clear q (wrap (clear q y -ℤ clear q f) +ℤ f) ≡ clear q y +ℤ k *ℤ pos 4294967296 =
    ap (clear q) inner ∙ clear_add q (f -ℤ clear q f) j ∙ omega (arith, ints, clear_rest q f, d) in
    ap (λ z. wrap (z +ℤ b)) cleared ∙ ap wrap (let r : clear q y +ℤ k *ℤ pos 4294967296 +ℤ b ≡ y +ℤ k *ℤ pos 4294967296 = omega (arith, ints, e) in r) ∙ wrap_multiple y k ∙ int_wrap_fits w32 y fits

-- the row with weight 1 on its destination makes the old value of what `row_undone` gives
pub undone_applied : (ws xs : List ℤ) (d q : ℕ) (bit : Bool) (y : ℤ) → d < length ws → length ws ≤ length xs → q < 16 → FitsSigned w32 y →
    get_or ws d (pos 0) ≡ pos 16384 → y ≡ clear q y +ℤ bit_of bit → row_value ws q bit (set xs d (lifted ws d q xs y)) ≡ y
undone_applied ws xs d q bit y h k l fits one e =
    let s : ℤ = dot ws (set xs d (pos 0)) in
    let u : ℤ = lifted ws d q xs y in
    let split : dot ws (set xs d u) ≡ s +ℤ u *ℤ pos 16384 = dot_apart ws xs d u h k ∙ ap (λ z. z *ℤ u +ℤ s) one ∙ omega (arith, ints) in
    let f : int_shr (dot ws (set xs d u)) 14 ≡ u +ℤ int_shr s 14 = ap (λ z. int_shr z 14) split ∙ floor_add s u 16384 (omega arith) ∙ omega (arith, ints) in
    ap (λ z. wrap (clear q z +ℤ bit_of bit)) f ∙ made_again q y (int_shr s 14) (bit_of bit) l fits e

pub set-again : (xs : List ℤ) (d : ℕ) (u v : ℤ) → set (set xs d u) d v ≡ set xs d v
set-again [] d u v = refl
set-again (x ∷ xs) zero u v = refl
set-again (x ∷ xs) (suc d) u v = ap (λ ys. x ∷ ys) (set-again xs d u v)

-- .. and so the whole old frame
pub weighted-lifted : (ws xs : List ℤ) (d q : ℕ) (bit : Bool) (y : ℤ) → d < length ws → length ws ≤ length xs → q < 16
    → FitsSigned w32 y → get_or ws d (pos 0) ≡ pos 16384 → y ≡ get_or xs d (pos 0) → y ≡ clear q y +ℤ bit_of bit →
    weighted ws d q bit (set xs d (lifted ws d q xs y)) ≡ xs
weighted-lifted ws xs d q bit y h k l fits one there e =
    ap (set (set xs d (lifted ws d q xs y)) d) (undone_applied ws xs d q bit y h k l fits one e ∙ there)
    ∙ set-again xs d (lifted ws d q xs y) (get_or xs d (pos 0))
    ∙ set-same xs d
  where
    set-same : (xs : List ℤ) (d : ℕ) → set xs d (get_or xs d (pos 0)) ≡ xs
    set-same [] d = refl
    set-same (x ∷ xs) zero = refl
    set-same (x ∷ xs) (suc d) = ap (λ ys. x ∷ ys) (set-same xs d)

-- prepared weights lift as the row does
pub lifted_prepared : (row : MatrixRow) (ws : List ℤ) (cs : List (Option ℤ)) (n dest step : ℕ) (frame : List ℤ) →
    ws ≡ weights_of row.frac cs ++ replicate n (pos 0) → cs ≡ row.coeffs.items → dest ≡ row.dest
    → lifted ws dest step frame (get_or frame dest (pos 0)) ≡ lifted (weights row) row.dest step frame (get_or frame row.dest (pos 0))
lifted_prepared row ws cs n dest step frame a b c =
    ap (λ zs. lifted zs dest step frame (get_or frame dest (pos 0))) (a ∙ ap (λ zs. weights_of row.frac zs ++ replicate n (pos 0)) b)
    ∙ ap (λ z. wrap (clear step (get_or frame dest (pos 0)) -ℤ clear step (int_shr z 14))) (dot-zeros (weights row) (set frame dest (pos 0)) n)
    ∙ ap (λ (d : ℕ). lifted (weights row) d step frame (get_or frame d (pos 0))) c

-- a weight that is there has a place
pub lt-length : (ws : List ℤ) (d : ℕ) → get_or ws d (pos 0) ≡ pos 16384 → d < length ws
lt-length [] d e = absurd (omega (arith, ints, e))
lt-length (w ∷ ws) zero e = omega arith
lt-length (w ∷ ws) (suc d) e = let h : d < length ws = lt-length ws d e in omega arith
