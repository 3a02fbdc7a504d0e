use Rattle.std.proofs.Common.{◌∙◌, sym, ap, arith}
use Rattle.mlp_output.specs.Output.{check_of}
use Rattle.mlp_output.proofs.Ready.{ready}
use Rattle.mlp_output.proofs.Outputs.{heard_front, rows_in_place}
use Rattle.mlp_output.proofs.output.put_out.Goals as goal

pub put_samples-requires-clause-shifts : goal.put_samples-requires-clause-shifts
put_samples-requires-clause-shifts c = rw c.as_slice.ensures.value (ready c.args.state.now c.requires.state).shifts

pub put_samples-requires-clause-places : goal.put_samples-requires-clause-places
put_samples-requires-clause-places c = rw c.as_slice-assign.ensures.value (ready c.args.state.now c.requires.state).places

pub put_samples-requires-clause-same : goal.put_samples-requires-clause-same
put_samples-requires-clause-same c =
    let r = ready c.args.state.now c.requires.state in
    rw (c.as_slice.ensures.value, c.as_slice-assign.ensures.value) (r.assign_count ∙ sym r.shift_count)

pub returns-clause-samples : goal.returns-clause-samples
returns-clause-samples c =
    rows_in_place c.args.state.now c.args.kept c.apply_rows.new.frames _ c.as_slice.result.now c.as_slice-assign.result.now c.apply_rows.ensures.samples c.as_slice.ensures.value
    c.put_samples.new.rows c.make_room.new.out.items c.as_slice-assign.ensures.value c.put_samples.ensures.rows (omega arith) c.make_room.ensures

pub returns-clause-check : goal.returns-clause-check
returns-clause-check c =
    c.put_samples.ensures.check
    ∙ ap (check_of c.args.check.now) (heard_front c.args.state.now c.args.kept c.apply_rows.new.frames _ c.as_slice.result.now c.as_slice-assign.result.now c.apply_rows.ensures.samples c.as_slice.ensures.value)
