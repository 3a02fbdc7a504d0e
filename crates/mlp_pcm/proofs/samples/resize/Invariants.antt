use Rattle.std.proofs.Common.{◌-◌, ◌≤◌, length}
use Rattle.mlp_pcm.proofs.samples.resize.Given as goal

abbrev pub invariant-loop-rows : goal.invariant-loop-rows
invariant-loop-rows l = length l.rows.items ≤ l.count

abbrev pub decreases-loop-rows : goal.decreases-loop-rows
decreases-loop-rows l = l.count - length l.rows.items
