use Rattle.std.proofs.Common.{arith}
use Rattle.mlp_arith.specs.Words.{floor_by}
use Rattle.mlp_search.proofs.LineFits.{mapped}
use Rattle.mlp_search.proofs.line.put_high.Goals as goal

pub returns : goal.returns
returns c =
    mapped (floor_by 13) c.args.whole.now c.loop-i.high (omega (arith, c.requires, c.loop-i.auto.high)) (λ k lt. c.loop-i.invariant k (omega (arith, lt, c.loop-i-test.false, c.loop-i.auto.high, c.loop-i.auto.i-end)))
