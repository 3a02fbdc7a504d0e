use Rattle.std.proofs.Common.{◌+◌, ◌≤◌}
use Rattle.mlp_tests_signal.proofs.fifo.place_all.Given as goal

abbrev pub invariant-loop-unit : goal.invariant-loop-unit
invariant-loop-unit l = l.fifo.count ≤ l.fn.fifo.count + l._unit
