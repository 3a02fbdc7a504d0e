use Rattle.std.proofs.Common.{arith}
use Rattle.mlp_contents.proofs.Giving.{seed_small, put_out_is, gives}
use Rattle.mlp_contents.specs.Read.{Running}
use Rattle.mlp_contents.proofs.give.give_by.Goals as goal

pub begin-requires-clause-seed : goal.begin-requires-clause-seed
begin-requires-clause-seed c = seed_small c.args.state.now c.requires.state

pub returns-clause-given : goal.returns-clause-given
returns-clause-given c = λ channels have.
    let place = c.args.place.now in
    let s = c.args.state.now in
    let top = c.args.segment.now in
    let frames = c.args.frames.now in
    let before : Running = record { seed = c.args.noise.now.seed; check = c.args.check.now } in
    let behind : Running = record { seed = c.put_out.new.noise.seed; check = c.put_out.new.check } in
    let rows = c.put_out.new.out.items in
    let out = put_out_is place s top frames before behind rows c.kept.result c.begin.new.noise.seed c.begin.new.check c.deref.result.now c.len-count.result c.deref.ensures.0 c.len-count.ensures.value c.kept.ensures
    c.begin.ensures.seed c.begin.ensures.check c.put_out.ensures.samples c.put_out.ensures.seed c.put_out.ensures.check in
    gives place s top frames before behind rows c.kept.result c.begin.new.noise.seed c.begin.new.check c.requires.state (omega (arith, c.len-count.ensures.value, c.told-frames)) c.widths.ensures out channels have
