use Rattle.std.proofs.Common.{◌≡◌, ◌++◌, take, drop}
use Rattle.std.specs.Prelude.{map}
use Rattle.mlp_substream.specs.Timings.{stamp_head}
use Rattle.mlp_retime.proofs.stamping.stamp_heads.Given as goal

abbrev pub invariant-loop-head : goal.invariant-loop-head
invariant-loop-head l = l.heads ≡ map (stamp_head l.output) (take l.head-index l.initial.heads) ++ drop l.head-index l.initial.heads
