-- What holds of a state that can be in force, as playing needs it.
use Rattle.std.proofs.Common.{◌≡◌, ◌+◌, ◌<◌, ◌≤◌, length, arith}
use Rattle.std.specs.Prelude.{All}
use Rattle.std.proofs.lemmas.Bool.{leb-true}
use Rattle.arrayvec.specs.ArrayVec.{ArrayVec}
use Rattle.mlp_syntax.specs.declared.major.Kind.{Kind}
use Rattle.mlp_syntax.specs.declared.major.Kind.TheVariants.{Fbb, Fba}
use Rattle.mlp_syntax.specs.declared.restart.Restart.{Restart}
use Rattle.mlp_syntax.specs.declared.params.MatrixRow.{MatrixRow}
use Rattle.mlp_layout.specs.Layout.{ruled, part}
use Rattle.mlp_layout.specs.Allowed.{Allowed}
use Rattle.mlp_layout.proofs.RuleReading.{rule_holds}
use Rattle.mlp_layout.proofs.CombinedLaws.{times_count}
use Rattle.mlp_params.specs.declared.state.State.{State}
use Rattle.mlp_params.specs.States.{IsState}
use Rattle.mlp_params.specs.Matrices.{matrix_limit, sources, row, rows}
use Rattle.mlp_params.proofs.RestartRanges.{ranges}
use Rattle.mlp_matrix.specs.Matrix.{IsRow, AreRows}
use Rattle.mlp_matrix.specs.Front.{AreWithin}
use Rattle.mlp_output.proofs.Values.{each_allowed, listed_count, listed_each, shift_most, step_most, weights_small}
use Rattle.mlp_output.proofs.Assignments.{noise_shift_most, assign_count, is_assignment}

-- a row, and as many coefficients as it has sources
record IsRowOf (r : Restart) (m : MatrixRow) : Type 0 where
  row : IsRow (r.max_matrix + 1) m
  count : length m.coeffs.items ≤ sources r

row_of : (r : Restart) (m : MatrixRow) → Allowed (row r) m → IsRowOf r m
unfolding row part ruled
row_of r m a =
    let dest : m.dest ≤ r.max_matrix = leb-true m.dest r.max_matrix (rule_holds _ 0 a.meets.0.1) in
    let frac : m.frac ≤ 14 = leb-true m.frac 14 (rule_holds _ 0 a.meets.1.0.1) in
    let count : length m.coeffs.items ≡ sources r = times_count (sources r) _ m.coeffs.items a.fits.1.1.1.0 in
    record {
      row = record { dest = omega arith; frac = frac; small = weights_small m.frac (sources r) m.coeffs.items frac a.fits.1.1.1.0 a.meets.1.1.1.0 };
      count = omega arith;
    }

most_rows : (format : Kind) → matrix_limit format ≤ 8
most_rows Fbb = omega arith
most_rows Fba = omega arith

rows_few : (format : Kind) (r : Restart) (v : ArrayVec MatrixRow) → Allowed (rows format r) v → length v.items ≤ 8
unfolding rows part ruled
rows_few format r v a =
    let le : length v.items ≤ matrix_limit format = leb-true (length v.items) (matrix_limit format) (rule_holds _ 0 a.meets.0.1) in
    omega (arith, le, most_rows format)

rows_of : (format : Kind) (r : Restart) (v : ArrayVec MatrixRow) → Allowed (rows format r) v → All (IsRowOf r) v.items
unfolding rows part
rows_of format r v a = each_allowed (IsRowOf r) (row r) (row_of r) (length v.items) v.items a.fits.1.0 a.meets.1.0

pub record IsReady (s : State) : Type 0 where
  pub most : s.restart.max_matrix ≤ 7
  pub noise_shift : s.restart.noise_shift < 16
  pub shift_count : length s.shifts.items ≡ s.restart.max_matrix + 1
  pub shifts : All (λ shift. shift ≤ 7) s.shifts.items
  pub assign_count : length s.restart.assign.items ≡ s.restart.max_matrix + 1
  pub places : All (λ a. a ≤ 7) s.restart.assign.items
  pub rows : AreRows s.rows.items s.steps.items (s.restart.max_matrix + 1)
  pub within : AreWithin (sources s.restart) s.rows.items

pub ready : (s : State) → IsState s → IsReady s
ready s h =
    let known = ranges s.format s.restart h.restart in
    let all = rows_of s.format s.restart s.rows h.rows in
    let steps = listed_count (s.restart.max + 1) _ s.steps h.steps in
    record {
      most = omega (arith, known.same, known.at_most_7);
      noise_shift = noise_shift_most s.format s.restart h.restart;
      shift_count = listed_count (s.restart.max_matrix + 1) _ s.shifts h.shifts;
      shifts = listed_each (λ shift. shift ≤ 7) _ shift_most (s.restart.max_matrix + 1) s.shifts h.shifts;
      assign_count = assign_count s.format s.restart h.restart;
      places = (is_assignment s.format s.restart h.restart).few;
      rows = record {
        few = rows_few s.format s.restart s.rows h.rows;
        channels_few = omega (arith, known.same, known.at_most_7);
        each = λ i d lt. (all i d lt).row;
        steps_there = omega (arith, known.same, steps);
        steps_small = listed_each (λ step. step < 16) _ step_most (s.restart.max + 1) s.steps h.steps;
      };
      within = λ i d lt. (all i d lt).count;
    }
