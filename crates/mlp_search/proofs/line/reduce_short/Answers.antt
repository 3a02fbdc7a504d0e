use Rattle.std.proofs.Common.{reverse, arith}
use Rattle.mlp_search.proofs.LineLaws.{block_left}
use Rattle.mlp_search.proofs.line.reduce_short.Goals as goal

pub returns : goal.returns
returns g c =
    block_left (reverse c.args.fir.now) c.args.shift c.args.whole.now c.loop-i.values (omega (arith, c.requires.room, c.loop-i.auto.values))
    (λ k lt. c.loop-i.invariant k (omega (arith, lt, c.loop-i-test.false, c.loop-i.auto.i-end, c.loop-i.auto.values)))
