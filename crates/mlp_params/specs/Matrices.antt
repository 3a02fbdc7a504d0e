-- Matrices, as a block gives them.
use Rattle.std.specs.Prelude.{ℕ, ◌+◌, ◌==◌, nat_le, true, if◌then◌else◌}
use Rattle.arrayvec.specs.ArrayVec.{ArrayVec, array_vec_len}
use Rattle.mlp_syntax.specs.declared.major.Kind.{Kind}
use Rattle.mlp_syntax.specs.declared.major.Kind.TheVariants.{Fbb, Fba}
use Rattle.mlp_syntax.specs.declared.fault.Field.TheVariants as rule
use Rattle.mlp_syntax.specs.declared.restart.Restart.{Restart}
use Rattle.mlp_syntax.specs.declared.params.MatrixRow.{MatrixRow}
use Rattle.mlp_layout.specs.Layout.{Layout, number_of, ruled, part, made}
use Rattle.mlp_layout.specs.Combined.{must, flag, signed_of, chosen, group, times}

-- how many matrices a kind of stream has at most
abbrev pub matrix_limit : Kind → ℕ
matrix_limit Fbb = 6
matrix_limit Fba = 8

-- the sources of a row: the matrix channels, and in noise kind 0 two noise sources behind them
abbrev pub sources : Restart → ℕ
sources r = r.max_matrix + 1 + (if r.kind == 0 then 2 else 0)

-- in noise kind 1 a noise shift, which has to be 0
unfoldable pub noise_shift_of : ℕ → Layout ℕ
noise_shift_of kind = chosen (kind == 0) (made 0) (ruled (must rule.NoiseShift (λ n. n == 0)) (number_of 4))

-- one row, with a coefficient or none for each source
unfoldable pub row : Restart → Layout MatrixRow
row r =
    part (ruled (must rule.MatrixDest (λ d. nat_le d r.max_matrix)) (number_of 4)) (λ m. m.dest) (λ dest.
    part (ruled (must rule.MatrixFrac (λ f. nat_le f 14)) (number_of 4)) (λ m. m.frac) (λ frac.
    part flag (λ m. m.bypass) (λ bypass.
    part (times (sources r) (group true (signed_of (frac + 2)))) (λ m. m.coeffs.items) (λ coeffs.
    part (noise_shift_of r.kind) (λ m. m.noise_shift) (λ noise_shift.
    made (record {
      dest = dest;
      frac = frac;
      bypass = bypass;
      coeffs = record { items = coeffs };
      noise_shift = noise_shift;
    }))))))

-- the count and the rows
unfoldable pub rows : Kind → Restart → Layout (ArrayVec MatrixRow)
rows format r =
    part (ruled (must rule.MatrixCount (λ n. nat_le n (matrix_limit format))) (number_of 4)) array_vec_len (λ count.
    part (times count (row r)) (λ v. v.items) (λ items.
    made (record { items = items })))
