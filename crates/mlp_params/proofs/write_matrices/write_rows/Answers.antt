use Rattle.std.proofs.Common.{sym, subst, arith}
use Rattle.std.proofs.lemmas.Result.{err_from_is_err_and}
use Rattle.mlp_layout.proofs.WritingLaws.{so_far_begins}
use Rattle.mlp_syntax.specs.declared.params.MatrixRow.{MatrixRow}
use Rattle.mlp_layout.specs.Allowed.{Allowed}
use Rattle.mlp_params.specs.Matrices.{row}
use Rattle.mlp_layout.proofs.WritingLoops.{text, text_goes_on, text_stops, text_done}
use Rattle.mlp_params.proofs.write_matrices.write_rows.Goals as goal

pub loop-matrix-init : goal.loop-matrix-init
loop-matrix-init c = so_far_begins c.args.w.now (text (row c.args.restart.now) c.args.given.now) c.place-place.ensures.small

pub write_row-requires : goal.write_row-requires
write_row-requires c =
    let P : MatrixRow → Type 0 = λ m. Allowed (row c.args.restart.now) m in
    subst P (sym c.matrix-item.is) (c.requires c.loop-matrix.matrix-index c.matrix-item.result c.loop-matrix-test.true)

pub returns-in_err-write_row : goal.returns-in_err-write_row
returns-in_err-write_row c =
    let p = err_from_is_err_and c.from_residual.result c.from_residual.ensures.1 in
    rw p.1 (record {
      ok = tt;
      err = text_stops (row c.args.restart.now) c.args.given.now c.loop-matrix.matrix-index c.matrix-item.result c.loop-matrix-test.true c.matrix-item.is c.args.w.now c.loop-matrix.w
          c.loop-matrix.invariant c.write_row.new.w c.in_err-write_row.ensures.err;
    })

pub loop-matrix-preserved : goal.loop-matrix-preserved
loop-matrix-preserved c = text_goes_on (row c.args.restart.now) c.args.given.now c.loop-matrix.matrix-index c.matrix-item.result c.loop-matrix-test.true c.matrix-item.is c.args.w.now c.loop-matrix.w c.loop-matrix.invariant
    c.write_row.new.w c.in_ok-write_row.ensures.ok

pub returns : goal.returns
returns c = record { ok = text_done (row c.args.restart.now) c.args.given.now c.loop-matrix.matrix-index c.args.w.now c.loop-matrix.w (omega arith) c.loop-matrix.invariant; err = tt }
