use Rattle.std.proofs.Common.{◌+◌, ◌∙◌, arith}
use Rattle.std.proofs.lemmas.Result.{err_from_is_err_and}
use Rattle.std.proofs.lemmas.List.{length_push}
use Rattle.mlp_params.specs.RestartHeader.{assigned}
use Rattle.mlp_layout.proofs.Loops.{series_goes_on, series_stops, series_is_done}
use Rattle.mlp_params.proofs.header.read_assigned.Goals as goal

pub returns-in_err-channel : goal.returns-in_err-channel
returns-in_err-channel c =
    let i = c.loop.invariant in
    let p = err_from_is_err_and c.from_residual.result c.from_residual.ensures.1 in
    rw (p.1, p.2) (series_stops (assigned c.args.max_matrix) c.loop.assign.items (c.args.max_matrix + 1) c.loop.counter c.loop.r.all c.loop.r.place c.in_err-channel.field-0.0 _ c.loop-test.true
    (rw (← c.deref.ensures.0) c.in_err-channel.ensures) i.so_far)

pub loop-preserved : goal.loop-preserved
loop-preserved c =
    let i = c.loop.invariant in
    let read = c.in_ok-channel.ensures in
    let on = series_goes_on (assigned c.args.max_matrix) c.loop.assign.items (c.args.max_matrix + 1) c.loop.counter c.loop.r.all c.loop.r.place c.read_channel.new.r.place c.in_ok-channel.channel _ c.loop-test.true
    (rw (← c.deref.ensures.0) read.0) i.so_far in
    record {
      moved = omega (arith, i.moved, read.2);
      so_far = rw (c.push.ensures.items, read.1) on;
      same_bits = read.1
          ∙ i.same_bits;
      count = rw c.push.ensures.items (omega (arith, length_push c.loop.assign.items c.in_ok-channel.channel, i.count));
    }

pub returns : goal.returns
returns c =
    let i = c.loop.invariant in
    (series_is_done (assigned c.args.max_matrix) c.loop.assign.items (c.args.max_matrix + 1) c.loop.counter c.loop.r.all c.loop.r.place _ c.loop-test.false i.so_far, i.same_bits, i.moved)
