use Rattle.mlp_substream.specs.Timings.{stamp_head}
use Rattle.mlp_retime.proofs.Stamps.{one_stamped}
use Rattle.mlp_retime.proofs.stamping.stamp_heads.Goals as goal

pub loop-head-preserved : goal.loop-head-preserved
loop-head-preserved c =
    one_stamped (stamp_head c.args.output) c.args.heads.now c.loop-head.heads c.loop-head.head-index c.stamp_head.new.head c.head-item.result c.loop-head-test.true c.loop-head.invariant c.stamp_head.ensures
