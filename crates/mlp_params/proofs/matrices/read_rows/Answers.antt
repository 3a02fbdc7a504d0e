use Rattle.std.proofs.Common.{◌∙◌, arith}
use Rattle.std.proofs.lemmas.Result.{err_from_is_err_and}
use Rattle.std.proofs.lemmas.List.{length_push}
use Rattle.mlp_layout.proofs.Repeated.{goes_on, stops, is_done}
use Rattle.mlp_params.specs.Matrices.{row}
use Rattle.mlp_params.proofs.matrices.read_rows.Goals as goal

pub returns-in_err-row : goal.returns-in_err-row
returns-in_err-row c =
    let i = c.loop.invariant in
    let p = err_from_is_err_and c.from_residual.result c.from_residual.ensures.1 in
    rw (p.1, p.2) (stops (row c.args.restart.now) c.loop.rows.items c.args.count c.loop.counter c.loop.r.all c.loop.r.place c.in_err-row.field-0.0 _ c.loop-test.true c.in_err-row.ensures i.so_far)

pub loop-preserved : goal.loop-preserved
loop-preserved c =
    let i = c.loop.invariant in
    let read = c.in_ok-row.ensures in
    let on = goes_on (row c.args.restart.now) c.loop.rows.items c.args.count c.loop.counter c.loop.r.all c.loop.r.place c.read_row.new.r.place c.in_ok-row.row _ c.loop-test.true read.0 i.so_far in
    record {
      moved = omega (arith, i.moved, read.2);
      so_far = rw (c.push.ensures.items, read.1) on;
      same_bits = read.1 ∙ i.same_bits;
      count = rw c.push.ensures.items (omega (arith, length_push c.loop.rows.items c.in_ok-row.row, i.count));
    }

pub returns : goal.returns
returns c =
    let i = c.loop.invariant in
    (is_done (row c.args.restart.now) c.loop.rows.items c.args.count c.loop.counter c.loop.r.all c.loop.r.place _ c.loop-test.false i.so_far, i.same_bits, i.moved)
