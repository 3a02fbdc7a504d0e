use Rattle.std.proofs.Common.{◌≡◌, ℕ, ◌-◌, ◌≤◌, List}
use Rattle.mlp_syntax.specs.declared.params.MatrixRow.{MatrixRow}
use Rattle.mlp_fold.specs.declared.profile.Mix.{Mix}
use Rattle.mlp_fold.specs.Profile.{AreMixed}
use Rattle.mlp_fold.specs.Mix.{channels_of}
use Rattle.mlp_fold.specs.Rows.{rows_of, steps_of}
use Rattle.mlp_matrix.specs.Matrix.{AreRows}
use Rattle.mlp_fold.proofs.Applied.{are_rows}
use Rattle.mlp_tests_signal.proofs.fold.decoded.Goals as goal

rows_at : (mix : Mix) (depth channels k : ℕ) (rows : List MatrixRow) (steps : List ℕ) (count : ℕ) → rows ≡ rows_of mix k channels →
    steps ≡ steps_of mix (24 - depth) k → count ≡ channels_of k → AreMixed mix depth channels → channels_of k ≤ channels → AreRows rows steps count
rows_at mix depth channels k rows steps count e f g m n = rw (e, f, g) (are_rows mix depth channels k m n)

pub apply-requires : goal.apply-requires
apply-requires c =
    rows_at c.args.mix c.args.depth c.args.channels c.args.k c.as_slice.result.now c.as_slice-2.result.now c.channels_of-count.result
    (cc) (cc) (cc) c.requires.profile c.requires.substream
