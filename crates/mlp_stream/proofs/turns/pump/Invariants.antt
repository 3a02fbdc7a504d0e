use Rattle.std.proofs.Common.{◌≡◌, ◌+◌, ◌-◌, length}
use Rattle.mlp_io.specs.Limit.{limit}
use Rattle.mlp_stream.proofs.Along.{Runs}
use Rattle.mlp_stream.proofs.turns.pump.Given as goal

abbrev pub invariant-units : goal.invariant-units
invariant-units g l = record {
  runs : Runs g.N.Session.step g.N.Session.count l.fn.taken l.fn.session l.session (g.S.Source.left l.fn.input) (g.S.Source.left l.input) (g.K.Sink.written l.fn.output) (g.K.Sink.written l.output) l.gathered l.window;
  reads : g.S.Source.faults l.input ≡ g.S.Source.faults l.fn.input;
  writes : g.K.Sink.faults l.output ≡ g.K.Sink.faults l.fn.output;
}

abbrev pub decreases-units : goal.decreases-units
decreases-units g l = limit - l.window.taken + length l.window.bytes
