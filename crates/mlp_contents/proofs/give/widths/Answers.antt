use Rattle.std.proofs.Common.{below_more}
use Rattle.mlp_contents.proofs.give.widths.Goals as goal

pub loop-i-preserved : goal.loop-i-preserved
loop-i-preserved c = below_more _ _ c.loop-i.invariant c.width.ensures
