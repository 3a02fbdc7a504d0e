use Rattle.std.proofs.Common.{◌≡◌, ◌≤◌, ◌-◌, length, take, drop}
use Rattle.mlp_residual.proofs.frames.fill_up.Given as goal

abbrev pub invariant-loop-out : goal.invariant-loop-out
invariant-loop-out l = record {
  longer : length l.fn.out.items ≤ length l.out.items;
  kept : take (length l.fn.out.items) l.out.items ≡ l.fn.out.items;
  rest : drop l.count l.out.items ≡ drop l.count l.fn.out.items;
}

abbrev pub decreases-loop-out : goal.decreases-loop-out
decreases-loop-out l = l.count - length l.out.items
