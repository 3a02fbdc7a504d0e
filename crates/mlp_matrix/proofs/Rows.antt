-- Rows in order, one step more.
use Rattle.std.specs.Prelude.{All, false}
use Rattle.std.proofs.Common.{◌≡◌, ℕ, suc, ◌+◌, ◌<◌, ◌≤◌, ◌^◌, List, [], ◌∷◌, ◌++◌, length, drop, get_or, ℤ, pos, arith, refl, sym, ◌∙◌, ap, inl, inr, max, replicate, map, Bool, Option}
use Rattle.std.proofs.Math.Nat.{zero-div}
use Rattle.std.proofs.Math.Seq.{drop-cons}
use Rattle.std.proofs.lemmas.Bool.{cases_lt}
use Rattle.std.proofs.lemmas.List.{get_or_default}
use Rattle.mlp_syntax.specs.declared.params.MatrixRow.{MatrixRow}
use Rattle.mlp_matrix.specs.Matrix.{weights_of, weights, weighted, step_of, row_applied, has_bit, applied_from, applied_each_from, weighted_each}
use Rattle.mlp_matrix.proofs.Weights.{weighted-zeros}

-- prepared weights make of a frame what the row makes
pub row_prepared : (steps : List ℕ) (row : MatrixRow) (ws : List ℤ) (cs : List (Option ℤ)) (n dest step : ℕ) (bit : Bool) (frame : List ℤ) →
    ws ≡ weights_of row.frac cs ++ replicate n (pos 0) → cs ≡ row.coeffs.items → dest ≡ row.dest → step ≡ step_of steps dest → weighted ws dest step bit frame ≡ row_applied steps row bit frame
row_prepared steps row ws cs n dest step bit frame a b c d =
    ap (λ zs. weighted zs dest step bit frame) (a ∙ ap (λ zs. weights_of row.frac zs ++ replicate n (pos 0)) b)
    ∙ weighted-zeros (weights row) n dest step bit frame
    ∙ ap (λ (q : ℕ). weighted (weights row) dest q bit frame) d
    ∙ ap (λ (q : ℕ). weighted (weights row) q (step_of steps q) bit frame) c

pub row_step : (rows : List MatrixRow) (steps : List ℕ) (bypass i : ℕ) (row : MatrixRow) (frame after all : List ℤ) → i < length rows → row ≡ get_or rows i row →
    after ≡ row_applied steps row (has_bit bypass i) frame → applied_from i (drop i rows) steps bypass frame ≡ all → applied_from (i + 1) (drop (i + 1) rows) steps bypass after ≡ all
row_step rows steps bypass i row frame after all h is a e =
    let head : drop i rows ≡ row ∷ drop (suc i) rows = drop-cons rows i row h ∙ ap (λ r. r ∷ drop (suc i) rows) (sym is) in
    ap (λ (j : ℕ). applied_from (i + 1) (drop j rows) steps bypass after) (let k : i + 1 ≡ suc i = omega arith in k)
    ∙ ap (applied_from (i + 1) (drop (suc i) rows) steps bypass) a
    ∙ sym (ap (λ rs. applied_from i rs steps bypass frame) head)
    ∙ e

-- ---- many frames

-- zeros behind the weights change nothing
each_zeros : (ws : List ℤ) (n dest step i : ℕ) (bypass : List ℕ) (frames : List (List ℤ)) →
    weighted_each (ws ++ replicate n (pos 0)) dest step i bypass frames ≡ weighted_each ws dest step i bypass frames
each_zeros ws n dest step i bypass [] = refl
each_zeros ws n dest step i [] (frame ∷ frames) = refl
each_zeros ws n dest step i (bits ∷ bypass) (frame ∷ frames) =
    ap (λ x. x ∷ weighted_each (ws ++ replicate n (pos 0)) dest step i bypass frames) (weighted-zeros ws n dest step (has_bit bits i) frame)
    ∙ ap (λ ys. weighted ws dest step (has_bit bits i) frame ∷ ys) (each_zeros ws n dest step i bypass frames)

-- one value more below the greatest
pub one_below : (xs : List ℕ) (i m n : ℕ) → i < length xs → n ≡ max (get_or xs i 0) m → ((k d : ℕ) → k < i → get_or xs k d ≤ m) → (k d : ℕ) → k < i + 1 → get_or xs k d ≤ n
one_below xs i m n lt e h k d here = elim (cases_lt k i) [
  | inl less ↦ omega (arith, e, h k d less)
  | inr same ↦
      let at : k ≡ i = omega (arith, same, here) in
      rw (at, get_or_default xs i d 0 lt) (omega (arith, e))
]

-- no bit of 0 is set
clear_bit : (bits i : ℕ) → bits ≡ 0 → has_bit bits i ≡ false
clear_bit bits i e = rw (e, zero-div (2 ^ i)) refl

-- frames whose bits are clear have no bypassed bit
pub each_clear : (ws : List ℤ) (dest step i : ℕ) (bypass : List ℕ) (frames : List (List ℤ)) → All (λ bits. bits ≤ 0) bypass → length bypass ≡ length frames →
    map (weighted ws dest step false) frames ≡ weighted_each ws dest step i bypass frames
each_clear ws dest step i [] [] h e = refl
each_clear ws dest step i [] (frame ∷ frames) h e = absurd (omega (arith, e))
each_clear ws dest step i (bits ∷ bypass) [] h e = refl
each_clear ws dest step i (bits ∷ bypass) (frame ∷ frames) h e =
    ap (λ b. weighted ws dest step b frame ∷ map (weighted ws dest step false) frames) (sym (clear_bit bits i (let z : bits ≤ 0 = h 0 0 (omega arith) in omega (arith, z))))
    ∙ ap (λ ys. weighted ws dest step (has_bit bits i) frame ∷ ys) (each_clear ws dest step i bypass frames (λ k d lt. h (suc k) d (omega (arith, lt))) (omega (arith, e)))

-- prepared weights make of many frames what the row makes
pub each_prepared : (row : MatrixRow) (ws : List ℤ) (cs : List (Option ℤ)) (n m dest step i : ℕ) (bypass : List ℕ) (frames : List (List ℤ)) →
    ws ≡ weights_of row.frac cs ++ replicate n (pos 0) → weights row ≡ weights_of row.frac cs ++ replicate m (pos 0) → dest ≡ row.dest →
    weighted_each ws dest step i bypass frames ≡ weighted_each (weights row) row.dest step i bypass frames
each_prepared row ws cs n m dest step i bypass frames a b c =
    ap (λ zs. weighted_each zs dest step i bypass frames) a
    ∙ each_zeros (weights_of row.frac cs) n dest step i bypass frames
    ∙ sym (each_zeros (weights_of row.frac cs) m dest step i bypass frames)
    ∙ sym (ap (λ zs. weighted_each zs dest step i bypass frames) b)
    ∙ ap (λ (d : ℕ). weighted_each (weights row) d step i bypass frames) c

-- one row more
each_row : (i : ℕ) (row : MatrixRow) (rows : List MatrixRow) (steps bypass : List ℕ) (frames : List (List ℤ)) →
    applied_each_from i (row ∷ rows) steps bypass frames ≡ applied_each_from (i + 1) rows steps bypass (weighted_each (weights row) row.dest (step_of steps row.dest) i bypass frames)
each_row i row rows steps bypass [] = refl
each_row i row rows steps [] (frame ∷ frames) = refl
each_row i row rows steps (bits ∷ bypass) (frame ∷ frames) = ap (λ ys. applied_from (i + 1) rows steps bits (row_applied steps row (has_bit bits i) frame) ∷ ys) (each_row i row rows steps bypass frames)

pub each_row_step : (rows : List MatrixRow) (steps bypass : List ℕ) (i : ℕ) (row : MatrixRow) (frames after all : List (List ℤ)) → i < length rows → row ≡ get_or rows i row →
    after ≡ weighted_each (weights row) row.dest (step_of steps row.dest) i bypass frames → applied_each_from i (drop i rows) steps bypass frames ≡ all → applied_each_from (i + 1) (drop (i + 1) rows) steps bypass after ≡ all
each_row_step rows steps bypass i row frames after all h is a e =
    let head : drop i rows ≡ row ∷ drop (suc i) rows = drop-cons rows i row h ∙ ap (λ r. r ∷ drop (suc i) rows) (sym is) in
    ap (λ (j : ℕ). applied_each_from (i + 1) (drop j rows) steps bypass after) (let k : i + 1 ≡ suc i = omega arith in k)
    ∙ ap (applied_each_from (i + 1) (drop (suc i) rows) steps bypass) a
    ∙ sym (each_row i row (drop (suc i) rows) steps bypass frames)
    ∙ sym (ap (λ rs. applied_each_from i rs steps bypass frames) head)
    ∙ e

pub each_done : (i : ℕ) (steps bypass : List ℕ) (frames : List (List ℤ)) → applied_each_from i [] steps bypass frames ≡ frames
each_done i steps bypass [] = refl
each_done i steps [] (frame ∷ frames) = refl
each_done i steps (bits ∷ bypass) (frame ∷ frames) = ap (λ ys. frame ∷ ys) (each_done i steps bypass frames)
