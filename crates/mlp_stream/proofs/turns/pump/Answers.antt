use Rattle.std.proofs.Common.{refl, ap, ◌∙◌, ◌≡◌, arith, length, ◌<◌}
use Rattle.std.proofs.lemmas.Result.{err_from_is_err_and}
use Rattle.std.proofs.lemmas.Bool.Decides.{nat_tests}
use Rattle.mlp_stream.proofs.Along.{run_begins, run_fills, run_goes_on, run_flush_fails, run_input_stops, run_unit_stops, run_last_stops, run_ends}
use Rattle.mlp_stream.proofs.turns.pump.Goals as goal

pub units-init : goal.units-init
units-init g c = record {
  runs = rw (c.new-window.ensures, c.new-gathered.ensures) (run_begins g.N.Session.step g.N.Session.last g.N.Session.count g.met.N.Session.lawful c.args.taken c.args.session.now _ _ c.requires.new c.requires.within);
  reads = refl;
  writes = refl;
}

pub returns-in_err-take_more-clause-pumped : goal.returns-in_err-take_more-clause-pumped
returns-in_err-take_more-clause-pumped g c =
    let p = err_from_is_err_and c.from_residual.result c.from_residual.ensures.1 in
    rw (p.1, p.2) (run_input_stops g.N.Session.step g.N.Session.last g.N.Session.count g.met.N.Session.lawful c.args.taken _ c.units.invariant.runs c.in_err-take_more.ensures.err)

pub returns-in_err-flush-clause-pumped : goal.returns-in_err-flush-clause-pumped
returns-in_err-flush-clause-pumped g c =
    let p = err_from_is_err_and c.from_residual-in_err-flush.result c.from_residual-in_err-flush.ensures.1 in
    let runs = run_fills g.N.Session.step g.N.Session.last g.N.Session.count g.met.N.Session.lawful c.args.taken c.units.invariant.runs c.in_ok-take_more.ensures.filled c.in_ok-take_more.ensures.flushed in
    rw (p.1, p.2) (run_flush_fails g.N.Session.step g.N.Session.last g.N.Session.count g.met.N.Session.lawful c.args.taken runs c.in_err-flush.ensures.err)

pub returns-in_err-last_word-clause-pumped : goal.returns-in_err-last_word-clause-pumped
returns-in_err-last_word-clause-pumped g c =
    let p = err_from_is_err_and c.from_residual-in_err-last_word.result c.from_residual-in_err-last_word.ensures.1 in
    let runs = run_fills g.N.Session.step g.N.Session.last g.N.Session.count g.met.N.Session.lawful c.args.taken c.units.invariant.runs c.in_ok-take_more.ensures.filled c.in_ok-take_more.ensures.flushed in
    let none : length c.take_more.new.window.bytes ≡ 0 = grind (arith, nat_tests, ap length c.bytes.ensures) in
    rw (p.1, p.2) (run_last_stops g.N.Session.step g.N.Session.last g.N.Session.count g.met.N.Session.lawful c.args.taken runs c.in_ok-flush.ensures.ok none
    c.in_ok-take_more.ensures.filled.ready (rw c.rest.ensures at c.in_err-last_word.ensures.err))

pub returns-then-is_empty-clause-pumped : goal.returns-then-is_empty-clause-pumped
returns-then-is_empty-clause-pumped g c =
    let runs = run_fills g.N.Session.step g.N.Session.last g.N.Session.count g.met.N.Session.lawful c.args.taken c.units.invariant.runs c.in_ok-take_more.ensures.filled c.in_ok-take_more.ensures.flushed in
    let none : length c.take_more.new.window.bytes ≡ 0 = grind (arith, nat_tests, ap length c.bytes.ensures) in
    run_ends g.N.Session.step g.N.Session.last g.N.Session.count g.met.N.Session.lawful c.args.taken _ c.put.result runs c.in_ok-flush.ensures.ok none
    c.in_ok-take_more.ensures.filled.ready (rw c.rest.ensures at c.in_ok-last_word.ensures.ok) (rw c.as_slice.ensures.value at c.put.ensures.ok) (rw c.as_slice.ensures.value at c.put.ensures.err)

pub returns-in_err-gather-in-Ok-clause-pumped : goal.returns-in_err-gather-in-Ok-clause-pumped
returns-in_err-gather-in-Ok-clause-pumped g c =
    let p = err_from_is_err_and c.from_residual-in_err-gather-in-Ok.result c.from_residual-in_err-gather-in-Ok.ensures.1 in
    let runs = run_fills g.N.Session.step g.N.Session.last g.N.Session.count g.met.N.Session.lawful c.args.taken c.units.invariant.runs c.in_ok-take_more.ensures.filled c.in_ok-take_more.ensures.flushed in
    rw (p.1, p.2) (run_flush_fails g.N.Session.step g.N.Session.last g.N.Session.count g.met.N.Session.lawful c.args.taken runs c.in_err-gather-in-Ok.ensures.err)

pub returns-in_err-flush-in-Err-clause-pumped : goal.returns-in_err-flush-in-Err-clause-pumped
returns-in_err-flush-in-Err-clause-pumped g c =
    let p = err_from_is_err_and c.from_residual-in_err-flush-in-Err.result c.from_residual-in_err-flush-in-Err.ensures.1 in
    let runs = run_fills g.N.Session.step g.N.Session.last g.N.Session.count g.met.N.Session.lawful c.args.taken c.units.invariant.runs c.in_ok-take_more.ensures.filled c.in_ok-take_more.ensures.flushed in
    rw (p.1, p.2) (run_flush_fails g.N.Session.step g.N.Session.last g.N.Session.count g.met.N.Session.lawful c.args.taken runs c.in_err-flush-in-Err.ensures.err)

pub returns-in-Err-clause-pumped : goal.returns-in-Err-clause-pumped
returns-in-Err-clause-pumped g c =
    let runs = run_fills g.N.Session.step g.N.Session.last g.N.Session.count g.met.N.Session.lawful c.args.taken c.units.invariant.runs c.in_ok-take_more.ensures.filled c.in_ok-take_more.ensures.flushed in
    let some : 0 < length c.take_more.new.window.bytes = grind (arith, nat_tests, ap length c.bytes.ensures) in
    run_unit_stops g.N.Session.step g.N.Session.last g.N.Session.count g.met.N.Session.lawful c.args.taken runs c.in_ok-flush-in-Err.ensures.ok some c.in-Err.ensures.err

pub units-preserved : goal.units-preserved
units-preserved g c =
    let runs = run_fills g.N.Session.step g.N.Session.last g.N.Session.count g.met.N.Session.lawful c.args.taken c.units.invariant.runs c.in_ok-take_more.ensures.filled c.in_ok-take_more.ensures.flushed in
    let some : 0 < length c.take_more.new.window.bytes = grind (arith, nat_tests, ap length c.bytes.ensures) in
    record {
      runs = rw c.skip.ensures (run_goes_on g.N.Session.step g.N.Session.last g.N.Session.count g.met.N.Session.lawful c.args.taken runs c.in-Ok.ensures.ok some c.in_ok-gather-in-Ok.ensures.ok);
      reads = c.in_ok-take_more.ensures.read.kept refl ∙ c.units.invariant.reads;
      writes = c.in_ok-gather-in-Ok.ensures.cause.kept ∙ c.in_ok-take_more.ensures.write.kept refl ∙ c.units.invariant.writes;
    }
