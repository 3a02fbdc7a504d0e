use Rattle.std.proofs.Common.{◌∙◌, arith}
use Rattle.std.proofs.lemmas.Result.{err_from_is_err_and}
use Rattle.std.proofs.lemmas.List.{length_push}
use Rattle.mlp_layout.proofs.Repeated.{goes_on, stops, is_done}
use Rattle.mlp_layout.specs.Layout.{number_of}
use Rattle.mlp_params.proofs.parameters.read_steps.Goals as goal

pub returns-in_err-step : goal.returns-in_err-step
returns-in_err-step c =
    let i = c.loop.invariant in
    let p = err_from_is_err_and c.from_residual.result c.from_residual.ensures.1 in
    rw (p.1, p.2) (stops (number_of 4) c.loop.steps.items c.args.count c.loop.counter c.loop.r.all c.loop.r.place c.in_err-step.field-0.0 _ c.loop-test.true c.in_err-step.ensures.read i.so_far)

pub loop-preserved : goal.loop-preserved
loop-preserved c =
    let i = c.loop.invariant in
    let read = c.in_ok-step.ensures.read in
    let on = goes_on (number_of 4) c.loop.steps.items c.args.count c.loop.counter c.loop.r.all c.loop.r.place c.byte.new.r.place c.in_ok-step.step _ c.loop-test.true read.0 i.so_far in
    record {
      moved = omega (arith, i.moved, read.2);
      so_far = rw (c.push.ensures.items, read.1) on;
      same_bits = read.1
          ∙ i.same_bits;
      count = rw c.push.ensures.items (omega (arith, length_push c.loop.steps.items c.in_ok-step.step, i.count));
    }

pub returns : goal.returns
returns c =
    let i = c.loop.invariant in
    (is_done (number_of 4) c.loop.steps.items c.args.count c.loop.counter c.loop.r.all c.loop.r.place _ c.loop-test.false i.so_far, i.same_bits, i.moved)
