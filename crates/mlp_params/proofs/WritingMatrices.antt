-- The text of matrices.
use Rattle.std.proofs.Common.{◌≡◌, ◌≢◌, ℕ, zero, suc, ◌+◌, ◌<◌, ◌≤◌, ◌^◌, eqb, true, List, [], ◌∷◌, ◌++◌, length, refl, arith}
use Rattle.std.proofs.lemmas.Bool.{ne_eqb, leb-true}
use Rattle.std.specs.Prelude.{All, ◌==◌}
use Rattle.arrayvec.specs.ArrayVec.{ArrayVec}
use Rattle.mlp_syntax.specs.declared.fault.Field.TheVariants as rule
use Rattle.mlp_syntax.specs.declared.major.Kind.{Kind}
use Rattle.mlp_syntax.specs.declared.restart.Restart.{Restart}
use Rattle.mlp_syntax.specs.declared.params.MatrixRow.{MatrixRow}
use Rattle.mlp_bits.specs.Bits.{bits, digit}
use Rattle.mlp_layout.specs.Layout.{Layout, number_of, ruled, seen, part, made, item}
use Rattle.mlp_layout.specs.Combined.{must, flag, signed_of, group, times}
use Rattle.mlp_layout.specs.Allowed.{Allowed}
use Rattle.mlp_params.specs.Matrices.{sources, noise_shift_of, row, rows}
use Rattle.mlp_layout.proofs.RuleReading.{rule_holds}
use Rattle.mlp_params.proofs.WritingFilters.{second_spelling, second_fits}
use Rattle.mlp_layout.proofs.WritingGroups.{fields}

pub noise_fits : (kind n : ℕ) → kind ≢ 0 → (noise_shift_of kind).Fits n → n < 2 ^ 4
unfolding noise_shift_of ruled number_of
noise_fits kind n some h = second_fits (made 0) (ruled (must rule.NoiseShift (λ n. n == 0)) (number_of 4)) n (eqb kind 0) (ne_eqb kind 0 some) h

pub noise_text : (kind n : ℕ) → kind ≢ 0 → bits 4 n ≡ (noise_shift_of kind).spelling n
unfolding noise_shift_of ruled number_of
noise_text kind n some = second_spelling (made 0) (ruled (must rule.NoiseShift (λ n. n == 0)) (number_of 4)) n (eqb kind 0) (ne_eqb kind 0 some)

pub record RowFits (r : Restart) (m : MatrixRow) : Type 0 where
  pub dest : m.dest < 2 ^ 4
  pub frac : m.frac < 2 ^ 4
  pub width : m.frac ≤ 14
  pub coeffs : (times (sources r) (group true (signed_of (m.frac + 2)))).Fits m.coeffs.items
  pub noise_shift : (noise_shift_of r.kind).Fits m.noise_shift

pub row_fits : (r : Restart) (m : MatrixRow) → Allowed (row r) m → RowFits r m
unfolding row part ruled number_of
row_fits r m a =
    let h = a.fits in
    record { dest = h.0; frac = h.1.0; width = leb-true _ 14 (rule_holds _ 0 a.meets.1.0.1); coeffs = h.1.1.1.0; noise_shift = h.1.1.1.1.0 }

pub row_text : (r : Restart) (m : MatrixRow) → fields ((m.dest, 4) ∷ (m.frac, 4) ∷ (digit m.bypass, 1) ∷ [])
    ((times (sources r) (group true (signed_of (m.frac + 2)))).spelling m.coeffs.items ++ ((noise_shift_of r.kind).spelling m.noise_shift ++ [])) ≡ (row r).spelling m
unfolding row part ruled number_of flag seen made
row_text r m = refl

times_all : {A : Type 0} (l : Layout A) (n : ℕ) (xs : List A) → Allowed (times n l) xs → All (Allowed l) xs
unfolding times item made
times_all l n [] a = λ k d lt. absurd (omega arith)
times_all l zero (x ∷ xs) a = absurd (let e = a.fits in cc)
times_all l (suc n) (x ∷ xs) a = cons (record { fits = a.fits.0; meets = a.meets.0 }) (times_all l n xs (record { fits = a.fits.1; meets = a.meets.1 }))
  where
    cons : Allowed l x → All (Allowed l) xs → All (Allowed l) (x ∷ xs)
    cons h all zero d lt = h
    cons h all (suc k) d lt = all k d (omega arith)

pub rows_all : (format : Kind) (r : Restart) (v : ArrayVec MatrixRow) → Allowed (rows format r) v → All (Allowed (row r)) v.items
unfolding rows part
rows_all format r v a = times_all (row r) (length v.items) v.items (record { fits = a.fits.1.0; meets = a.meets.1.0 })

pub rows_count : (format : Kind) (r : Restart) (v : ArrayVec MatrixRow) → Allowed (rows format r) v → length v.items < 2 ^ 4
unfolding rows part ruled number_of
rows_count format r v a = a.fits.0
