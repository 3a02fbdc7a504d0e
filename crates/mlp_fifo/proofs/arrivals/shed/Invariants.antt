use Rattle.std.proofs.Common.{◌≡◌, ◌≤◌, ◌<◌, ◌+◌, ◌-◌, suc, length, get_or}
use Rattle.mlp_fifo.specs.Load.{sum_from}
use Rattle.mlp_fifo.proofs.arrivals.shed.Given as goal

abbrev pub invariant-loop-left : goal.invariant-loop-left
invariant-loop-left l = record {
  fewer : l.units ≤ l.fn.held.units;
  bytes_are : l.left ≡ sum_from (λ i. get_or l.latest.items i 0) (length l.latest.items - l.units) l.units;
  within : l.left ≤ l.size;
  most : l.units < l.fn.held.units → l.size < l.left + l.bytes + get_or l.latest.items (length l.latest.items - suc l.units) 0;
}

abbrev pub decreases-loop-left : goal.decreases-loop-left
decreases-loop-left l = l.units
