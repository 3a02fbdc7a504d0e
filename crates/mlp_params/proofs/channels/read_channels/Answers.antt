use Rattle.std.proofs.Common.{true, ◌∙◌, arith}
use Rattle.std.proofs.lemmas.Result.{err_from_is_err_and}
use Rattle.std.proofs.lemmas.List.{length_push}
use Rattle.mlp_layout.specs.Combined.{group}
use Rattle.mlp_params.specs.Parameters.{channel}
use Rattle.mlp_layout.proofs.EachReading.{goes_on, stops, is_done}
use Rattle.mlp_params.proofs.channels.read_channels.Goals as goal

pub returns-in_err-channel : goal.returns-in_err-channel
returns-in_err-channel c =
    let i = c.loop-state.invariant in
    let p = err_from_is_err_and c.from_residual.result c.from_residual.ensures.1 in
    rw (p.1, p.2) (stops (λ s. group true (channel c.args.flags s)) c.args.in_force.now c.loop-state.state-index c.state-item.result c.loop-state.out.items c.loop-state.r.all c.loop-state.r.place c.in_err-channel.field-0.0 _
    c.loop-state-test.true c.state-item.is c.in_err-channel.ensures i.so_far)

pub loop-state-preserved : goal.loop-state-preserved
loop-state-preserved c =
    let i = c.loop-state.invariant in
    let read = c.in_ok-channel.ensures in
    let on = goes_on (λ s. group true (channel c.args.flags s)) c.args.in_force.now c.loop-state.state-index c.state-item.result c.loop-state.out.items c.loop-state.r.all c.loop-state.r.place c.read_given.new.r.place
    c.in_ok-channel.channel _ c.loop-state-test.true c.state-item.is read.0 i.so_far in
    record {
      moved = omega (arith, i.moved, read.2);
      so_far = rw (c.push.ensures.items, read.1) on;
      same_bits = read.1
          ∙ i.same_bits;
      count = rw c.push.ensures.items (omega (arith, length_push c.loop-state.out.items c.in_ok-channel.channel, i.count));
    }

pub returns : goal.returns
returns c =
    let i = c.loop-state.invariant in
    (is_done (λ s. group true (channel c.args.flags s)) c.args.in_force.now c.loop-state.state-index c.loop-state.out.items c.loop-state.r.all c.loop-state.r.place _ c.loop-state-test.false i.so_far, i.same_bits, i.moved)
