use Rattle.std.proofs.Common.{arith}
use Rattle.std.proofs.lemmas.Int.{ints}
use Rattle.mlp_search.proofs.SameLists.{other_item, same_items}
use Rattle.mlp_search.proofs.giving.same_coeffs.Goals as goal

pub returns-then-a-i : goal.returns-then-a-i
returns-then-a-i c = other_item c.args.a.now c.args.b.now c.loop-i.i (λ e. absurd (omega (arith, ints, e, c.if-a-i.true)))

pub returns : goal.returns
returns c = same_items c.args.a.now c.args.b.now (omega arith) (λ k lt. c.loop-i.invariant k (omega (arith, lt, c.loop-i-test.false, c.loop-i.auto.i-end)))
