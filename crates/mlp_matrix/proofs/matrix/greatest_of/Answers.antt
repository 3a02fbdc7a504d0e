use Rattle.std.proofs.Common.{arith}
use Rattle.mlp_matrix.proofs.Rows.{one_below}
use Rattle.mlp_matrix.proofs.matrix.greatest_of.Goals as goal

pub loop-i-preserved : goal.loop-i-preserved
loop-i-preserved c = one_below c.args.bypass.now c.loop-i.i c.loop-i.greatest c.max-greatest.result c.loop-i-test.true c.max-greatest.ensures c.loop-i.invariant

pub returns : goal.returns
returns c k d h = c.loop-i.invariant k d (omega (arith, h, c.loop-i-test.false))
