-- The rows of the top substream, undone from the last to the first, make the coded channels of a frame of PCM.
use Rattle.std.proofs.Common.{◌≡◌, ℕ, zero, suc, ◌-◌, ◌≤◌, List, [], ◌∷◌, ◌++◌, ℤ, pos, negsuc, neg_ℤ, ◌+ℤ◌, ◌-ℤ◌, ◌*ℤ◌, Bool, true, false, cond, w32, arith, refl, sym, ◌∙◌, ap, subst, inl, inr}
use Rattle.std.specs.Prelude.{not, ◌⊎◌}
use Rattle.mlp_syntax.specs.declared.params.MatrixRow.{MatrixRow}
use Rattle.std.proofs.lemmas.Int.{ints, int_wrap_fits}
use Rattle.std.proofs.lemmas.Bool.Decides.{eqb_tells}
use Rattle.mlp_arith.specs.Words.{floor_by, clear, wrap}
use Rattle.mlp_arith.proofs.Floors.{floor_only}
use Rattle.mlp_arith.proofs.Residues.{clear_zero, clear_add, clear_le, lt_clear}
use Rattle.mlp_predict.specs.Prediction.{dot}
use Rattle.mlp_matrix.specs.Matrix.{weights, is_even, row_undone}
use Rattle.mlp_fold.specs.declared.profile.Mix.{Mix}
use Rattle.mlp_fold.specs.declared.profile.Mix.TheVariants.{Split, Fold, Bypass, Side}
use Rattle.mlp_fold.specs.Profile.{AreMixed}
use Rattle.mlp_arith.specs.Ranges.{Is26}
use Rattle.mlp_fold.specs.Mix.{at, IsSample, AreSamples, channels_of, shown, lowered, front6, front8, coded_fold6, coded_fold8, coded_bypass, coded_side, coded_of, bypass_of, presented_of}
use Rattle.mlp_fold.specs.Rows.{row, left, right, on, side_row, fold_rows, bypass_rows, rows_of, steps_by, bypass_steps, steps_of}
use Rattle.mlp_fold.specs.Undone.{undone, undone_bits}
use Rattle.mlp_fold.proofs.Mixes.{dot_one2, dot_one3, dot_one4, dot_one5}
use Rattle.mlp_fold.proofs.Bounds.{front6-26, front8-26}

-- what undoing the rows at the top substream gives, by the number of low bits
abbrev ToCoded : Mix → ℕ → ℕ → ℕ → List ℤ → List ℤ → Type 0
ToCoded mix q channels k x more = undone (rows_of mix k channels) (steps_of mix q k) (shown channels x ++ more) ≡ coded_of mix q channels x ++ more

abbrev ToBits : Mix → ℕ → ℕ → ℕ → List ℤ → List ℤ → Type 0
ToBits mix q channels k x more = undone_bits (rows_of mix k channels) (steps_of mix q k) (shown channels x ++ more) ≡ bypass_of mix x

-- ---- one row

-- a value less the part of the others
undone_by : (q : ℕ) (x s d : ℤ) → IsSample q x → Is26 (lowered q x s) → d ≡ s → wrap (clear q x -ℤ clear q (floor_by 14 d)) ≡ lowered q x s
undone_by q x s d h f e =
    ap (λ z. wrap (clear q x -ℤ clear q (floor_by 14 z))) e
    ∙ ap (λ z. wrap (z -ℤ clear q (floor_by 14 s))) h.cleared
    ∙ int_wrap_fits w32 (lowered q x s) (omega (arith, ints, f.low, f.high))

-- a value and another one that has no low bits either
undone_with : (q : ℕ) (x y d : ℤ) → IsSample q x → IsSample q y → d ≡ y *ℤ pos 16384 → wrap (clear q x -ℤ clear q (floor_by 14 d)) ≡ x -ℤ y
undone_with q x y d h k e =
    let f : floor_by 14 d ≡ y = floor_only d y 16384 (omega arith) (omega (arith, ints, e)) (omega (arith, ints, e)) in
    ap (λ z. wrap (clear q x -ℤ clear q z)) f
    ∙ ap (λ z. wrap (z -ℤ clear q y)) h.cleared
    ∙ ap (λ z. wrap (x -ℤ z)) k.cleared
    ∙ int_wrap_fits w32 (x -ℤ y) (omega (arith, ints, h.low, h.high, k.low, k.high))

clear_neg : (q : ℕ) (y : ℤ) → clear q y ≡ y → clear q (neg_ℤ y) ≡ neg_ℤ y
clear_neg q y e =
    let a : neg_ℤ y +ℤ clear q y ≡ pos 0 = omega (arith, ints, e) in
    let b : clear q (neg_ℤ y +ℤ clear q y) ≡ pos 0 = ap (clear q) a ∙ clear_zero q in
    omega (arith, ints, clear_add q (neg_ℤ y) (floor_by q y), b, e)

undone_plus : (q : ℕ) (x y d : ℤ) → IsSample q x → IsSample q y → d ≡ neg_ℤ y *ℤ pos 16384 → wrap (clear q x -ℤ clear q (floor_by 14 d)) ≡ x +ℤ y
undone_plus q x y d h k e =
    let f : floor_by 14 d ≡ neg_ℤ y = floor_only d (neg_ℤ y) 16384 (omega arith) (omega (arith, ints, e)) (omega (arith, ints, e)) in
    let sum : x -ℤ neg_ℤ y ≡ x +ℤ y = omega (arith, ints) in
    ap (λ z. wrap (clear q x -ℤ clear q z)) f
    ∙ ap (λ z. wrap (z -ℤ clear q (neg_ℤ y))) h.cleared
    ∙ ap (λ z. wrap (x -ℤ z)) (clear_neg q y k.cleared)
    ∙ ap wrap sum
    ∙ int_wrap_fits w32 (x +ℤ y) (omega (arith, ints, h.low, h.high, k.low, k.high))

-- a value alone
undone_alone : (q : ℕ) (x d : ℤ) → IsSample q x → d ≡ pos 0 *ℤ pos 16384 → wrap (clear 1 x -ℤ clear 1 (floor_by 14 d)) ≡ clear 1 x
undone_alone q x d h e =
    let f : floor_by 14 d ≡ pos 0 = floor_only d (pos 0) 16384 (omega arith) (omega (arith, ints, e)) (omega (arith, ints, e)) in
    let bare : clear 1 x -ℤ clear 1 (pos 0) ≡ clear 1 x = omega (arith, ints, clear_zero 1) in
    ap (λ z. wrap (clear 1 x -ℤ clear 1 z)) f
    ∙ ap wrap bare
    ∙ int_wrap_fits w32 (clear 1 x) (omega (arith, ints, clear_le 1 x, lt_clear 1 x, h.low, h.high))

-- ---- sums without the destination

bare_left6 : (z1 c2 c3 c4 c5 a b : ℤ) (more : List ℤ) → dot (weights (row 0 14 false (left (negsuc 11584)))) (pos 0 ∷ z1 ∷ c2 ∷ c3 ∷ c4 ∷ c5 ∷ a ∷ b ∷ more) ≡ negsuc 11584 *ℤ c2 +ℤ negsuc 11584 *ℤ c4
bare_left6 z1 c2 c3 c4 c5 a b more = omega (arith, ints)

bare_right6 : (z0 c2 c3 c4 c5 a b : ℤ) (more : List ℤ) → dot (weights (row 1 14 false (right (negsuc 11584)))) (z0 ∷ pos 0 ∷ c2 ∷ c3 ∷ c4 ∷ c5 ∷ a ∷ b ∷ more) ≡ negsuc 11584 *ℤ c2 +ℤ negsuc 11584 *ℤ c5
bare_right6 z0 c2 c3 c4 c5 a b more = omega (arith, ints)

bare_left8 : (z1 c2 c3 c4 c5 a b : ℤ) (more : List ℤ) → dot (weights (row 0 14 false (left (negsuc 5792)))) (pos 0 ∷ z1 ∷ c2 ∷ c3 ∷ c4 ∷ c5 ∷ a ∷ b ∷ more) ≡ negsuc 11584 *ℤ c2 +ℤ negsuc 5792 *ℤ c4
bare_left8 z1 c2 c3 c4 c5 a b more = omega (arith, ints)

bare_right8 : (z0 c2 c3 c4 c5 a b : ℤ) (more : List ℤ) → dot (weights (row 1 14 false (right (negsuc 5792)))) (z0 ∷ pos 0 ∷ c2 ∷ c3 ∷ c4 ∷ c5 ∷ a ∷ b ∷ more) ≡ negsuc 11584 *ℤ c2 +ℤ negsuc 5792 *ℤ c5
bare_right8 z0 c2 c3 c4 c5 a b more = omega (arith, ints)

bare_back4 : (z0 z1 c2 c3 c5 a b : ℤ) (more : List ℤ) → dot (weights (row 4 14 false (on ((4, pos 16384) ∷ (6, negsuc 16383) ∷ [])))) (z0 ∷ z1 ∷ c2 ∷ c3 ∷ pos 0 ∷ c5 ∷ a ∷ b ∷ more) ≡ neg_ℤ a *ℤ pos 16384
bare_back4 z0 z1 c2 c3 c5 a b more = omega (arith, ints)

bare_back5 : (z0 z1 c2 c3 c4 a b : ℤ) (more : List ℤ) → dot (weights (row 5 14 false (on ((5, pos 16384) ∷ (7, negsuc 16383) ∷ [])))) (z0 ∷ z1 ∷ c2 ∷ c3 ∷ c4 ∷ pos 0 ∷ a ∷ b ∷ more) ≡ neg_ℤ b *ℤ pos 16384
bare_back5 z0 z1 c2 c3 c4 a b more = omega (arith, ints)

bare_side : (x0 a b : ℤ) (more : List ℤ) → dot (weights side_row) (x0 ∷ pos 0 ∷ a ∷ b ∷ more) ≡ x0 *ℤ pos 16384
bare_side x0 a b more = omega (arith, ints)

-- ---- Fold

pub fold6_undone : (q : ℕ) (x more : List ℤ) → q ≤ 8 → AreSamples q 6 x → undone (fold_rows 1 6) (steps_by 1 q) (shown 6 x ++ more) ≡ coded_fold6 q x ++ more
fold6_undone q x more l h =
    let h0 : IsSample q (at x 0) = h 0 (omega arith) in
    let h1 : IsSample q (at x 1) = h 1 (omega arith) in
    let h2 : IsSample q (at x 2) = h 2 (omega arith) in
    let h4 : IsSample q (at x 4) = h 4 (omega arith) in
    let h5 : IsSample q (at x 5) = h 5 (omega arith) in
    let z1 : ℤ = front6 q (at x 1) (at x 2) (at x 5) in
    let e1 = undone_by q (at x 1) (negsuc 11584 *ℤ at x 2 +ℤ negsuc 11584 *ℤ at x 5)
    (dot (weights (row 1 14 false (right (negsuc 11584)))) (at x 0 ∷ pos 0 ∷ at x 2 ∷ at x 3 ∷ at x 4 ∷ at x 5 ∷ pos 0 ∷ pos 0 ∷ more)) h1 (front6-26 q (at x 1) (at x 2) (at x 5) l h1 h2 h5)
    (bare_right6 (at x 0) (at x 2) (at x 3) (at x 4) (at x 5) (pos 0) (pos 0) more) in
    let e0 = undone_by q (at x 0) (negsuc 11584 *ℤ at x 2 +ℤ negsuc 11584 *ℤ at x 4)
    (dot (weights (row 0 14 false (left (negsuc 11584)))) (pos 0 ∷ z1 ∷ at x 2 ∷ at x 3 ∷ at x 4 ∷ at x 5 ∷ pos 0 ∷ pos 0 ∷ more)) h0 (front6-26 q (at x 0) (at x 2) (at x 4) l h0 h2 h4)
    (bare_left6 z1 (at x 2) (at x 3) (at x 4) (at x 5) (pos 0) (pos 0) more) in
    let second : undone (row 1 14 false (right (negsuc 11584)) ∷ []) (steps_by 1 q) (shown 6 x ++ more) ≡ at x 0 ∷ z1 ∷ at x 2 ∷ at x 3 ∷ at x 4 ∷ at x 5 ∷ pos 0 ∷ pos 0 ∷ more =
    ap (λ (v : ℤ). at x 0 ∷ v ∷ at x 2 ∷ at x 3 ∷ at x 4 ∷ at x 5 ∷ pos 0 ∷ pos 0 ∷ more) e1 in
    ap (row_undone (row 0 14 false (left (negsuc 11584))) q) second
    ∙ ap (λ (v : ℤ). v ∷ z1 ∷ at x 2 ∷ at x 3 ∷ at x 4 ∷ at x 5 ∷ pos 0 ∷ pos 0 ∷ more) e0

abbrev back4 : List MatrixRow
back4 = row 4 14 false (on ((4, pos 16384) ∷ (6, negsuc 16383) ∷ [])) ∷ row 5 14 false (on ((5, pos 16384) ∷ (7, negsuc 16383) ∷ [])) ∷ []

-- the sums of surround and back come first
backs_undone : (q : ℕ) (x more : List ℤ) → AreSamples q 8 x
    → undone back4 (steps_by 2 q) (shown 8 x ++ more) ≡ at x 0 ∷ at x 1 ∷ at x 2 ∷ at x 3 ∷ (at x 4 +ℤ at x 6) ∷ (at x 5 +ℤ at x 7) ∷ at x 6 ∷ at x 7 ∷ more
backs_undone q x more h =
    let e5 = undone_plus q (at x 5) (at x 7) (dot (weights (row 5 14 false (on ((5, pos 16384) ∷ (7, negsuc 16383) ∷ []))))
    (at x 0 ∷ at x 1 ∷ at x 2 ∷ at x 3 ∷ at x 4 ∷ pos 0 ∷ at x 6 ∷ at x 7 ∷ more)) (h 5 (omega arith)) (h 7 (omega arith))
    (bare_back5 (at x 0) (at x 1) (at x 2) (at x 3) (at x 4) (at x 6) (at x 7) more) in
    let z5 : ℤ = at x 5 +ℤ at x 7 in
    let e4 = undone_plus q (at x 4) (at x 6) (dot (weights (row 4 14 false (on ((4, pos 16384) ∷ (6, negsuc 16383) ∷ [])))) (at x 0 ∷ at x 1 ∷ at x 2 ∷ at x 3 ∷ pos 0 ∷ z5 ∷ at x 6 ∷ at x 7 ∷ more))
    (h 4 (omega arith)) (h 6 (omega arith))
    (bare_back4 (at x 0) (at x 1) (at x 2) (at x 3) z5 (at x 6) (at x 7) more) in
    let last : undone (row 5 14 false (on ((5, pos 16384) ∷ (7, negsuc 16383) ∷ [])) ∷ []) (steps_by 2 q) (shown 8 x ++ more) ≡ at x 0 ∷ at x 1 ∷ at x 2 ∷ at x 3 ∷ at x 4 ∷ z5 ∷ at x 6 ∷ at x 7 ∷ more =
    ap (λ (v : ℤ). at x 0 ∷ at x 1 ∷ at x 2 ∷ at x 3 ∷ at x 4 ∷ v ∷ at x 6 ∷ at x 7 ∷ more) e5 in
    ap (row_undone (row 4 14 false (on ((4, pos 16384) ∷ (6, negsuc 16383) ∷ []))) q) last
    ∙ ap (λ (v : ℤ). at x 0 ∷ at x 1 ∷ at x 2 ∷ at x 3 ∷ v ∷ z5 ∷ at x 6 ∷ at x 7 ∷ more) e4

-- .. and so the fronts are lowered by these sums
pub fold8_undone : (q : ℕ) (x more : List ℤ) → q ≤ 8 → AreSamples q 8 x → undone (fold_rows 2 8) (steps_by 2 q) (shown 8 x ++ more) ≡ coded_fold8 q x ++ more
fold8_undone q x more l h =
    let h0 : IsSample q (at x 0) = h 0 (omega arith) in
    let h1 : IsSample q (at x 1) = h 1 (omega arith) in
    let h2 : IsSample q (at x 2) = h 2 (omega arith) in
    let h4 : IsSample q (at x 4) = h 4 (omega arith) in
    let h5 : IsSample q (at x 5) = h 5 (omega arith) in
    let h6 : IsSample q (at x 6) = h 6 (omega arith) in
    let h7 : IsSample q (at x 7) = h 7 (omega arith) in
    let z4 : ℤ = at x 4 +ℤ at x 6 in
    let z5 : ℤ = at x 5 +ℤ at x 7 in
    let z1 : ℤ = front8 q (at x 1) (at x 2) z5 in
    let e1 = undone_by q (at x 1) (negsuc 11584 *ℤ at x 2 +ℤ negsuc 5792 *ℤ z5)
    (dot (weights (row 1 14 false (right (negsuc 5792)))) (at x 0 ∷ pos 0 ∷ at x 2 ∷ at x 3 ∷ z4 ∷ z5 ∷ at x 6 ∷ at x 7 ∷ more)) h1 (front8-26 q (at x 1) (at x 2) (at x 5) (at x 7) l h1 h2 h5 h7)
    (bare_right8 (at x 0) (at x 2) (at x 3) z4 z5 (at x 6) (at x 7) more) in
    let e0 = undone_by q (at x 0) (negsuc 11584 *ℤ at x 2 +ℤ negsuc 5792 *ℤ z4) (dot (weights (row 0 14 false (left (negsuc 5792)))) (pos 0 ∷ z1 ∷ at x 2 ∷ at x 3 ∷ z4 ∷ z5 ∷ at x 6 ∷ at x 7 ∷ more))
    h0 (front8-26 q (at x 0) (at x 2) (at x 4) (at x 6) l h0 h2 h4 h6)
    (bare_left8 z1 (at x 2) (at x 3) z4 z5 (at x 6) (at x 7) more) in
    let second : undone (row 1 14 false (right (negsuc 5792)) ∷ back4) (steps_by 2 q) (shown 8 x ++ more) ≡ at x 0 ∷ z1 ∷ at x 2 ∷ at x 3 ∷ z4 ∷ z5 ∷ at x 6 ∷ at x 7 ∷ more =
    ap (row_undone (row 1 14 false (right (negsuc 5792))) q) (backs_undone q x more h)
    ∙ ap (λ (v : ℤ). at x 0 ∷ v ∷ at x 2 ∷ at x 3 ∷ z4 ∷ z5 ∷ at x 6 ∷ at x 7 ∷ more) e1 in
    ap (row_undone (row 0 14 false (left (negsuc 5792))) q) second
    ∙ ap (λ (v : ℤ). v ∷ z1 ∷ at x 2 ∷ at x 3 ∷ z4 ∷ z5 ∷ at x 6 ∷ at x 7 ∷ more) e0

-- ---- Bypass

pub bypass_undone : (q : ℕ) (x more : List ℤ) → AreSamples q 6 x → undone (bypass_rows 1) (bypass_steps 1) (shown 6 x ++ more) ≡ coded_bypass x ++ more
bypass_undone q x more h =
    let e5 = undone_alone q (at x 5) (dot (weights (row 5 0 true (on ((5, pos 1) ∷ [])))) (at x 0 ∷ at x 1 ∷ at x 2 ∷ at x 3 ∷ at x 4 ∷ pos 0 ∷ pos 0 ∷ pos 0 ∷ more)) (h 5 (omega arith))
    (dot_one5 (at x 0) (at x 1) (at x 2) (at x 3) (at x 4) (pos 0) (pos 0) (pos 0) more) in
    let z5 : ℤ = clear 1 (at x 5) in
    let e4 = undone_alone q (at x 4) (dot (weights (row 4 0 true (on ((4, pos 1) ∷ [])))) (at x 0 ∷ at x 1 ∷ at x 2 ∷ at x 3 ∷ pos 0 ∷ z5 ∷ pos 0 ∷ pos 0 ∷ more)) (h 4 (omega arith))
    (dot_one4 (at x 0) (at x 1) (at x 2) (at x 3) (pos 0) z5 (pos 0) (pos 0) more) in
    let z4 : ℤ = clear 1 (at x 4) in
    let e3 = undone_alone q (at x 3) (dot (weights (row 3 0 true (on ((3, pos 1) ∷ [])))) (at x 0 ∷ at x 1 ∷ at x 2 ∷ pos 0 ∷ z4 ∷ z5 ∷ pos 0 ∷ pos 0 ∷ more)) (h 3 (omega arith))
    (dot_one3 (at x 0) (at x 1) (at x 2) (pos 0) z4 z5 (pos 0) (pos 0) more) in
    let z3 : ℤ = clear 1 (at x 3) in
    let e2 = undone_alone q (at x 2) (dot (weights (row 2 0 true (on ((2, pos 1) ∷ [])))) (at x 0 ∷ at x 1 ∷ pos 0 ∷ z3 ∷ z4 ∷ z5 ∷ pos 0 ∷ pos 0 ∷ more)) (h 2 (omega arith))
    (dot_one2 (at x 0) (at x 1) (pos 0) z3 z4 z5 (pos 0) (pos 0) more) in
    let r2 : MatrixRow = row 2 0 true (on ((2, pos 1) ∷ [])) in
    let r3 : MatrixRow = row 3 0 true (on ((3, pos 1) ∷ [])) in
    let r4 : MatrixRow = row 4 0 true (on ((4, pos 1) ∷ [])) in
    let r5 : MatrixRow = row 5 0 true (on ((5, pos 1) ∷ [])) in
    let last : undone (r5 ∷ []) (bypass_steps 1) (shown 6 x ++ more) ≡ at x 0 ∷ at x 1 ∷ at x 2 ∷ at x 3 ∷ at x 4 ∷ z5 ∷ pos 0 ∷ pos 0 ∷ more =
    ap (λ (v : ℤ). at x 0 ∷ at x 1 ∷ at x 2 ∷ at x 3 ∷ at x 4 ∷ v ∷ pos 0 ∷ pos 0 ∷ more) e5 in
    let third : undone (r4 ∷ r5 ∷ []) (bypass_steps 1) (shown 6 x ++ more) ≡ at x 0 ∷ at x 1 ∷ at x 2 ∷ at x 3 ∷ z4 ∷ z5 ∷ pos 0 ∷ pos 0 ∷ more =
    ap (row_undone r4 1) last ∙ ap (λ (v : ℤ). at x 0 ∷ at x 1 ∷ at x 2 ∷ at x 3 ∷ v ∷ z5 ∷ pos 0 ∷ pos 0 ∷ more) e4 in
    let second : undone (r3 ∷ r4 ∷ r5 ∷ []) (bypass_steps 1) (shown 6 x ++ more) ≡ at x 0 ∷ at x 1 ∷ at x 2 ∷ z3 ∷ z4 ∷ z5 ∷ pos 0 ∷ pos 0 ∷ more =
    ap (row_undone r3 1) third ∙ ap (λ (v : ℤ). at x 0 ∷ at x 1 ∷ at x 2 ∷ v ∷ z4 ∷ z5 ∷ pos 0 ∷ pos 0 ∷ more) e3 in
    ap (row_undone r2 1) second ∙ ap (λ (v : ℤ). at x 0 ∷ at x 1 ∷ v ∷ z3 ∷ z4 ∷ z5 ∷ pos 0 ∷ pos 0 ∷ more) e2

turned : (b : Bool) → ◌≡◌ {A = ℕ} (cond (not b) 1 0) (cond b 0 1)
turned true = refl
turned false = refl

bypass_sent : (x more : List ℤ) → undone_bits (bypass_rows 1) (bypass_steps 1) (shown 6 x ++ more) ≡ bypass_of Bypass x
bypass_sent x more = omega (arith, turned (is_even (at x 2)), turned (is_even (at x 3)), turned (is_even (at x 4)), turned (is_even (at x 5)))

-- ---- Side

side_undone : (q : ℕ) (x more : List ℤ) → AreSamples q 2 x → undone (side_row ∷ []) (steps_by 0 q) (shown 2 x ++ more) ≡ coded_side x ++ more
side_undone q x more h =
    ap (λ (v : ℤ). at x 0 ∷ v ∷ pos 0 ∷ pos 0 ∷ pos 0 ∷ pos 0 ∷ pos 0 ∷ pos 0 ∷ more)
    (undone_with q (at x 1) (at x 0) (dot (weights side_row) (at x 0 ∷ pos 0 ∷ pos 0 ∷ pos 0 ∷ pos 0 ∷ pos 0 ∷ pos 0 ∷ pos 0 ∷ more)) (h 1 (omega arith)) (h 0 (omega arith))
    (bare_side (at x 0) (pos 0) (pos 0) (pos 0 ∷ pos 0 ∷ pos 0 ∷ pos 0 ∷ more)))

-- ---- each mix, at its top substream

fold6_at : (q k : ℕ) (x more : List ℤ) → q ≤ 8 → channels_of k ≡ 6 → AreSamples q 6 x → ToCoded Fold q 6 k x more
fold6_at q zero x more l e h = absurd (omega (arith, e))
fold6_at q (suc zero) x more l e h = fold6_undone q x more l h
fold6_at q (suc (suc k)) x more l e h = absurd (omega (arith, e))

fold8_at : (q k : ℕ) (x more : List ℤ) → q ≤ 8 → channels_of k ≡ 8 → AreSamples q 8 x → ToCoded Fold q 8 k x more
fold8_at q zero x more l e h = absurd (omega (arith, e))
fold8_at q (suc zero) x more l e h = absurd (omega (arith, e))
fold8_at q (suc (suc k)) x more l e h = fold8_undone q x more l h

bypass_at : (q k : ℕ) (x more : List ℤ) → channels_of k ≡ 6 → AreSamples q 6 x → ToCoded Bypass q 6 k x more
bypass_at q zero x more e h = absurd (omega (arith, e))
bypass_at q (suc zero) x more e h = bypass_undone q x more h
bypass_at q (suc (suc k)) x more e h = absurd (omega (arith, e))

side_at : (q k : ℕ) (x more : List ℤ) → channels_of k ≡ 2 → AreSamples q 2 x → ToCoded Side q 2 k x more
side_at q zero x more e h = side_undone q x more h
side_at q (suc zero) x more e h = absurd (omega (arith, e))
side_at q (suc (suc k)) x more e h = absurd (omega (arith, e))

pub to_coded : (mix : Mix) (depth channels k : ℕ) (x more : List ℤ) → AreMixed mix depth channels → channels_of k ≡ channels → AreSamples (24 - depth) channels x → ToCoded mix (24 - depth) channels k x more
to_coded Split depth channels k x more m e h = refl
to_coded Fold depth channels k x more m e h =
    let q : ℕ = 24 - depth in
    let l : 24 - depth ≤ 8 = omega (arith, m.depth_least) in
    let P : ℕ → Type 0 = λ n. channels_of k ≡ n → AreSamples (24 - depth) n x → ToCoded Fold (24 - depth) n k x more in
    elim (eqb_tells channels 6) [
      | inl f ↦ subst P (sym f.1) (λ i j. fold6_at (24 - depth) k x more l i j) e h
      | inr f ↦ subst P (sym (m.shape.1 f.1)) (λ i j. fold8_at (24 - depth) k x more l i j) e h
    ]
to_coded Bypass depth channels k x more m e h =
    let P : ℕ → Type 0 = λ n. channels_of k ≡ n → AreSamples (24 - depth) n x → ToCoded Bypass (24 - depth) n k x more in
    subst P (sym m.shape.0) (λ i j. bypass_at (24 - depth) k x more i j) e h
to_coded Side depth channels k x more m e h =
    let P : ℕ → Type 0 = λ n. channels_of k ≡ n → AreSamples (24 - depth) n x → ToCoded Side (24 - depth) n k x more in
    subst P (sym m.shape) (λ i j. side_at (24 - depth) k x more i j) e h

-- ---- the bits

fold_sent : (q channels k : ℕ) (x more : List ℤ) → (channels ≡ 6) ⊎ (channels ≡ 8) → channels_of k ≡ channels → ToBits Fold q channels k x more
fold_sent q channels k x more shape e =
    let P : ℕ → Type 0 = λ n. channels_of k ≡ n → ToBits Fold q n k x more in
    elim shape [
      | inl f ↦ subst P (sym f) (λ i. six k i) e
      | inr f ↦ subst P (sym f) (λ i. eight_ k i) e
    ]
  where
    six : (k : ℕ) → channels_of k ≡ 6 → ToBits Fold q 6 k x more
    six zero i = absurd (omega (arith, i))
    six (suc zero) i = refl
    six (suc (suc k)) i = absurd (omega (arith, i))

    eight_ : (k : ℕ) → channels_of k ≡ 8 → ToBits Fold q 8 k x more
    eight_ zero i = absurd (omega (arith, i))
    eight_ (suc zero) i = absurd (omega (arith, i))
    eight_ (suc (suc k)) i = refl

bypass_bits_at : (q k : ℕ) (x more : List ℤ) → channels_of k ≡ 6 → ToBits Bypass q 6 k x more
bypass_bits_at q zero x more e = absurd (omega (arith, e))
bypass_bits_at q (suc zero) x more e = bypass_sent x more
bypass_bits_at q (suc (suc k)) x more e = absurd (omega (arith, e))

pub to_bits : (mix : Mix) (depth channels k : ℕ) (x more : List ℤ) → AreMixed mix depth channels → channels_of k ≡ channels → AreSamples (24 - depth) channels x → ToBits mix (24 - depth) channels k x more
to_bits Split depth channels k x more m e h = refl
to_bits Fold depth channels k x more m e h =
    elim (eqb_tells channels 6) [
      | inl f ↦ fold_sent (24 - depth) channels k x more (inl f.1) e
      | inr f ↦ fold_sent (24 - depth) channels k x more (inr (m.shape.1 f.1)) e
    ]
to_bits Bypass depth channels k x more m e h =
    let P : ℕ → Type 0 = λ n. channels_of k ≡ n → ToBits Bypass (24 - depth) n k x more in
    subst P (sym m.shape.0) (λ i. bypass_bits_at (24 - depth) k x more i) e
to_bits Side depth channels k x more m e h = refl

-- ---- the top presentation

fold_top : (q channels k : ℕ) (x : List ℤ) → (channels ≡ 6) ⊎ (channels ≡ 8) → channels_of k ≡ channels → presented_of Fold q channels k x ≡ shown channels x
fold_top q channels k x shape e =
    let P : ℕ → Type 0 = λ n. channels_of k ≡ n → presented_of Fold q n k x ≡ shown n x in
    elim shape [
      | inl f ↦ subst P (sym f) (λ i. of_six k i) e
      | inr f ↦ subst P (sym f) (λ i. of_eight k i) e
    ]
  where
    of_six : (k : ℕ) → channels_of k ≡ 6 → presented_of Fold q 6 k x ≡ shown 6 x
    of_six zero i = absurd (omega (arith, i))
    of_six (suc k) i = refl

    of_eight : (k : ℕ) → channels_of k ≡ 8 → presented_of Fold q 8 k x ≡ shown 8 x
    of_eight zero i = absurd (omega (arith, i))
    of_eight (suc zero) i = absurd (omega (arith, i))
    of_eight (suc (suc k)) i = refl

pub top_shown : (mix : Mix) (depth channels k : ℕ) (x : List ℤ) → AreMixed mix depth channels → channels_of k ≡ channels → presented_of mix (24 - depth) channels k x ≡ shown channels x
top_shown Split depth channels k x m e = ap (λ n. shown n x) e
top_shown Fold depth channels k x m e =
    elim (eqb_tells channels 6) [
      | inl f ↦ fold_top (24 - depth) channels k x (inl f.1) e
      | inr f ↦ fold_top (24 - depth) channels k x (inr (m.shape.1 f.1)) e
    ]
top_shown Bypass depth channels k x m e = ap (λ n. shown n x) e
top_shown Side depth channels k x m e = ap (λ n. shown n x) e
