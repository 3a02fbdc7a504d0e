-- The rows and steps of a substream are rows that can be applied.
use Rattle.std.proofs.Common.{◌≡◌, ℕ, zero, suc, ◌-◌, ◌<◌, ◌≤◌, List, [], ◌∷◌, length, ℤ, pos, negsuc, Bool, true, arith, refl, sym, subst, inl, inr}
use Rattle.std.specs.Prelude.{◌&&◌, nat_lt, nat_le, All}
use Rattle.std.proofs.lemmas.Int.{ints}
use Rattle.std.proofs.lemmas.Bool.{ltb-true, leb-true, and_parts}
use Rattle.std.proofs.lemmas.Bool.Decides.{eqb_tells}
use Rattle.std.proofs.lemmas.List.Elements.{All-cons, All-replicate}
use Rattle.mlp_syntax.specs.declared.params.MatrixRow.{MatrixRow}
use Rattle.mlp_predict.specs.Prediction.{IsCoefficient}
use Rattle.mlp_matrix.specs.Matrix.{weights_of, IsRow, AreRows}
use Rattle.mlp_fold.specs.declared.profile.Mix.{Mix}
use Rattle.mlp_fold.specs.declared.profile.Mix.TheVariants.{Split, Fold, Bypass, Side}
use Rattle.mlp_fold.specs.Profile.{AreMixed}
use Rattle.mlp_fold.specs.Mix.{channels_of}
use Rattle.mlp_fold.specs.Rows.{side_row, rows_of, fold_rows, bypass_rows, steps_of, steps_by, bypass_steps}

-- ---- tests that compute

abbrev is_small : ℤ → Bool
is_small (pos n) = nat_lt n 32768
is_small (negsuc n) = nat_lt n 32768

abbrev are_small : List ℤ → Bool
are_small [] = true
are_small (c ∷ cs) = is_small c && are_small cs

abbrev is_row : ℕ → MatrixRow → Bool
is_row channels row = nat_lt row.dest channels && (nat_le row.frac 14 && are_small (weights_of row.frac row.coeffs.items))

abbrev are_rows_there : ℕ → List MatrixRow → Bool
are_rows_there channels [] = true
are_rows_there channels (row ∷ rows) = is_row channels row && are_rows_there channels rows

small : (c : ℤ) → is_small c ≡ true → IsCoefficient c
small (pos n) e = let h : n < 32768 = ltb-true n 32768 e in record { low = omega (arith, ints); high = omega (arith, ints, h) }
small (negsuc n) e = let h : n < 32768 = ltb-true n 32768 e in record { low = omega (arith, ints, h); high = omega (arith, ints) }

none_small : All IsCoefficient []
none_small k d h = absurd (omega arith)

smalls : (cs : List ℤ) → are_small cs ≡ true → All IsCoefficient cs
smalls [] e = none_small
smalls (c ∷ cs) e = let h = and_parts (is_small c) (are_small cs) e in All-cons IsCoefficient c cs (small c h.0) (smalls cs h.1)

a_row : (channels : ℕ) (row : MatrixRow) → is_row channels row ≡ true → IsRow channels row
a_row channels row e =
    let h = and_parts (nat_lt row.dest channels) (nat_le row.frac 14 && are_small (weights_of row.frac row.coeffs.items)) e in
    let k = and_parts (nat_le row.frac 14) (are_small (weights_of row.frac row.coeffs.items)) h.1 in
    record { dest = ltb-true row.dest channels h.0; frac = leb-true row.frac 14 k.0; small = smalls (weights_of row.frac row.coeffs.items) k.1 }

no_rows : (channels : ℕ) → All (IsRow channels) []
no_rows channels k d h = absurd (omega arith)

each_row : (channels : ℕ) (rows : List MatrixRow) → are_rows_there channels rows ≡ true → All (IsRow channels) rows
each_row channels [] e = no_rows channels
each_row channels (row ∷ rows) e =
    let h = and_parts (is_row channels row) (are_rows_there channels rows) e in
    All-cons (IsRow channels) row rows (a_row channels row h.0) (each_row channels rows h.1)

-- ---- steps

abbrev IsStep : ℕ → Type 0
IsStep s = s < 16

rows_fit : (rows : List MatrixRow) (steps : List ℕ) (channels : ℕ) → length rows ≤ 8 → channels ≤ 8 → are_rows_there channels rows ≡ true → channels ≤ length steps → All IsStep steps → AreRows rows steps channels
rows_fit rows steps channels few narrow e there small_steps = record { few = few; channels_few = narrow; each = each_row channels rows e; steps_there = there; steps_small = small_steps }

steps_fit : (k q : ℕ) → q ≤ 8 → All IsStep (steps_by k q)
steps_fit zero q l = All-replicate IsStep 2 q (omega arith)
steps_fit (suc zero) q l = All-replicate IsStep 6 q (omega arith)
steps_fit (suc (suc k)) q l = All-replicate IsStep 8 q (omega arith)

bypass_steps_fit : All IsStep (bypass_steps 1)
bypass_steps_fit =
    All-cons IsStep 0 (0 ∷ 1 ∷ 1 ∷ 1 ∷ 1 ∷ []) (omega arith) (All-cons IsStep 0 (1 ∷ 1 ∷ 1 ∷ 1 ∷ []) (omega arith) (All-replicate IsStep 4 1 (omega arith)))

-- ---- each mix

split_rows : (k q : ℕ) → q ≤ 8 → AreRows [] (steps_by k q) (channels_of k)
split_rows zero q l = rows_fit [] (steps_by 0 q) 2 (omega arith) (omega arith) refl (omega arith) (steps_fit 0 q l)
split_rows (suc zero) q l = rows_fit [] (steps_by 1 q) 6 (omega arith) (omega arith) refl (omega arith) (steps_fit 1 q l)
split_rows (suc (suc k)) q l = rows_fit [] (steps_by 2 q) 8 (omega arith) (omega arith) refl (omega arith) (steps_fit 2 q l)

fold6_rows : (k q : ℕ) → q ≤ 8 → channels_of k ≤ 6 → AreRows (fold_rows k 6) (steps_by k q) (channels_of k)
fold6_rows zero q l n = rows_fit (fold_rows 0 6) (steps_by 0 q) 2 (omega arith) (omega arith) refl (omega arith) (steps_fit 0 q l)
fold6_rows (suc zero) q l n = rows_fit (fold_rows 1 6) (steps_by 1 q) 6 (omega arith) (omega arith) refl (omega arith) (steps_fit 1 q l)
fold6_rows (suc (suc k)) q l n = absurd (omega arith)

fold8_rows : (k q : ℕ) → q ≤ 8 → AreRows (fold_rows k 8) (steps_by k q) (channels_of k)
fold8_rows zero q l = rows_fit (fold_rows 0 8) (steps_by 0 q) 2 (omega arith) (omega arith) refl (omega arith) (steps_fit 0 q l)
fold8_rows (suc zero) q l = rows_fit (fold_rows 1 8) (steps_by 1 q) 6 (omega arith) (omega arith) refl (omega arith) (steps_fit 1 q l)
fold8_rows (suc (suc k)) q l = rows_fit (fold_rows 2 8) (steps_by 2 q) 8 (omega arith) (omega arith) refl (omega arith) (steps_fit 2 q l)

bypass_rows_fit : (k : ℕ) → channels_of k ≤ 6 → AreRows (bypass_rows k) (bypass_steps k) (channels_of k)
bypass_rows_fit zero n = rows_fit [] (bypass_steps 0) 2 (omega arith) (omega arith) refl (omega arith) (All-replicate IsStep 2 0 (omega arith))
bypass_rows_fit (suc zero) n = rows_fit (bypass_rows 1) (bypass_steps 1) 6 (omega arith) (omega arith) refl (omega arith) bypass_steps_fit
bypass_rows_fit (suc (suc k)) n = absurd (omega arith)

side_rows : (k q : ℕ) → q ≤ 8 → channels_of k ≤ 2 → AreRows (side_row ∷ []) (steps_by k q) (channels_of k)
side_rows zero q l n = rows_fit (side_row ∷ []) (steps_by 0 q) 2 (omega arith) (omega arith) refl (omega arith) (steps_fit 0 q l)
side_rows (suc zero) q l n = absurd (omega arith)
side_rows (suc (suc k)) q l n = absurd (omega arith)

pub are_rows : (mix : Mix) (depth channels k : ℕ) → AreMixed mix depth channels → channels_of k ≤ channels → AreRows (rows_of mix k channels) (steps_of mix (24 - depth) k) (channels_of k)
are_rows Split depth channels k m n = split_rows k (24 - depth) (omega (arith, m.depth_least))
are_rows Fold depth channels k m n =
    let l : 24 - depth ≤ 8 = omega (arith, m.depth_least) in
    let P : ℕ → Type 0 = λ c. channels_of k ≤ c → AreRows (rows_of Fold k c) (steps_of Fold (24 - depth) k) (channels_of k) in
    elim (eqb_tells channels 6) [
      | inl e ↦ subst P (sym e.1) (λ i. fold6_rows k (24 - depth) l i) n
      | inr e ↦ subst P (sym (m.shape.1 e.1)) (λ i. fold8_rows k (24 - depth) l) n
    ]
are_rows Bypass depth channels k m n = bypass_rows_fit k (omega (arith, m.shape.0))
are_rows Side depth channels k m n = side_rows k (24 - depth) (omega (arith, m.depth_least)) (omega (arith, m.shape))
