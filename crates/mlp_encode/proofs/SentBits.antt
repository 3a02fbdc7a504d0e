-- The bypassed bits of a frame that is sent fit the rows of the mix.
use Rattle.std.proofs.Common.{◌≡◌, ℕ, zero, suc, ◌<◌, ◌^◌, Bool, true, false, List, [], ◌∷◌, map, refl, sym, ap, ◌∙◌, subst, arith, inl, inr, ◌⊎◌}
use Rattle.std.specs.Prelude.{All, ◌==◌, ◌||◌, if◌then◌else◌}
use Rattle.std.specs.List.{list_any}
use Rattle.std.proofs.lemmas.List.Elements.{All-cons}
use Rattle.mlp_syntax.specs.declared.params.MatrixRow.{MatrixRow}
use Rattle.mlp_layout.specs.Layout.{Sound, seen, made, item}
use Rattle.mlp_layout.specs.Reading.{Read}
use Rattle.mlp_layout.specs.Combined.{chosen, series}
use Rattle.mlp_layout.proofs.Fitting.{flag_fits}
use Rattle.mlp_residual.specs.Frames.{unpacked, bypass_bits}
use Rattle.mlp_residual.proofs.FrameLaws.{bypass_bits_is, packed-unpacked}
use Rattle.mlp_residual.proofs.RunLaws.{no_bypass}
use Rattle.mlp_fold.specs.declared.profile.Mix.{Mix}
use Rattle.mlp_fold.specs.declared.profile.Mix.TheVariants.{Split, Fold, Bypass, Side}
use Rattle.mlp_fold.specs.declared.coding.CodedFrame.{CodedFrame}
use Rattle.mlp_fold.specs.Rows.{row, left, right, on, rows_of}
use Rattle.mlp_encode.specs.Blocks.{bypass_in}
use Rattle.std.proofs.Common.{pos, neg_ℤ}

-- ---- no row takes a bit, or four do

all_false : (bs : List Bool) → list_any (λ b. b) bs ≡ false → All (λ b. b ≡ false) bs
all_false [] e = λ i d h. absurd (omega (arith, h))
all_false (true ∷ bs) e = absurd (let t : true ≡ false = e in cc)
all_false (false ∷ bs) e = All-cons (λ b. b ≡ false) false bs refl (all_false bs e)

any-map : (rows : List MatrixRow) → list_any (λ b. b) (map (λ row. row.bypass) rows) ≡ list_any (λ row. row.bypass) rows
any-map [] = refl
any-map (r ∷ rows) = ap (λ (b : Bool). r.bypass || b) (any-map rows)

rows_bits : (mix : Mix) (j channels : ℕ) → (list_any (λ row. row.bypass) (rows_of mix j channels) ≡ false) ⊎ (map (λ row. row.bypass) (rows_of mix j channels) ≡ true ∷ true ∷ true ∷ true ∷ [])
rows_bits Split j channels = inl refl
rows_bits Fold zero channels = inl refl
rows_bits Fold (suc zero) channels = inl (pick (channels == 6))
  where
    pick : (t : Bool) → list_any (λ row. row.bypass) (
        if t
        then row 0 14 false (left (neg_ℤ (pos 11585))) ∷ row 1 14 false (right (neg_ℤ (pos 11585))) ∷ []
        else row 0 14 false (left (neg_ℤ (pos 5793))) ∷ row 1 14 false (right (neg_ℤ (pos 5793))) ∷ row 4 14 false (on ((4, pos 8192) ∷ [])) ∷ row 5 14 false (on ((5, pos 8192) ∷ [])) ∷ []
        ) ≡ false
    pick true = refl
    pick false = refl
rows_bits Fold (suc (suc j)) channels = inl refl
rows_bits Bypass zero channels = inl refl
rows_bits Bypass (suc j) channels = inr refl
rows_bits Side j channels = inl refl

-- ---- the bits fit

none_fit : (bs : List Bool) → list_any (λ b. b) bs ≡ false → (bypass_bits bs).Fits 0
none_fit bs e =
    let l = bypass_bits bs in
    let P : Read ℕ → Type 0 = λ r. Sound l [] 0 r in
    let s = subst P (no_bypass bs (all_false bs e) [] 0) ((bypass_bits_is bs).sound [] 0 (omega arith)) in
    s.0.fits

four_fit : (n : ℕ) → n < 2 ^ 4 → (bypass_bits (true ∷ true ∷ true ∷ true ∷ [])).Fits n
unfolding bypass_bits seen series item made chosen unpacked
four_fit n lt = ((flag_fits _, (flag_fits _, (flag_fits _, (flag_fits _, refl)))), packed-unpacked 4 n lt)

pub bits_fit : (mix : Mix) (j channels : ℕ) (f : CodedFrame) → f.bypass < 16 → (bypass_bits (map (λ row. row.bypass) (rows_of mix j channels))).Fits (bypass_in (rows_of mix j channels) f)
bits_fit mix j channels f lt = by_rows (rows_of mix j channels) (rows_bits mix j channels)
  where
    small : (t : Bool) → (if t then f.bypass else 0) < 2 ^ 4
    small true = omega (arith, lt)
    small false = omega arith

    by_rows : (rows : List MatrixRow) → (list_any (λ row. row.bypass) rows ≡ false) ⊎ (map (λ row. row.bypass) rows ≡ true ∷ true ∷ true ∷ true ∷ []) → (bypass_bits (map (λ row. row.bypass) rows)).Fits (bypass_in rows f)
    by_rows rows (inl none) =
        subst (λ (n : ℕ). (bypass_bits (map (λ row. row.bypass) rows)).Fits n) (sym (ap (λ (b : Bool). if b then f.bypass else 0) none)) (none_fit (map (λ row. row.bypass) rows) (any-map rows ∙ none))
    by_rows rows (inr four) = subst (λ (bs : List Bool). (bypass_bits bs).Fits (bypass_in rows f)) (sym four) (four_fit (bypass_in rows f) (small (list_any (λ row. row.bypass) rows)))
