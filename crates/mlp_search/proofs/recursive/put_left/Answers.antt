use Rattle.std.proofs.Common.{ℤ, neg_ℤ, arith}
use Rattle.mlp_arith.specs.Words.{floor_by}
use Rattle.mlp_search.proofs.LineFits.{mapped}
use Rattle.mlp_search.proofs.recursive.put_left.Goals as goal

pub returns : goal.returns
returns c =
    mapped (λ (e : ℤ). neg_ℤ (floor_by c.args.step e)) c.args.values.now c.loop-i.values (omega (arith, c.loop-i.auto.values))
    (λ k lt. c.loop-i.invariant.done k (omega (arith, lt, c.loop-i-test.false, c.loop-i.auto.values, c.loop-i.auto.i-end)))
