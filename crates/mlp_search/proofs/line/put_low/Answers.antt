use Rattle.std.proofs.Common.{arith}
use Rattle.mlp_search.specs.Lines.{low_part}
use Rattle.mlp_search.proofs.LineFits.{mapped}
use Rattle.mlp_search.proofs.line.put_low.Goals as goal

pub returns : goal.returns
returns c =
    mapped low_part c.args.whole.now c.loop-i.low (omega (arith, c.requires, c.loop-i.auto.low)) (λ k lt. c.loop-i.invariant k (omega (arith, lt, c.loop-i-test.false, c.loop-i.auto.low, c.loop-i.auto.i-end)))
