use Rattle.std.proofs.Common.{arith}
use Rattle.mlp_search.proofs.SumLaws.{over}
use Rattle.mlp_search.proofs.sides.least_twice.Goals as goal

pub returns-clause-second : goal.returns-clause-second
returns-clause-second c = omega (arith, c.min-2.ensures, c.min.ensures, over c.args.sum c.args.power 1 2 (omega arith))

pub returns-clause-third : goal.returns-clause-third
returns-clause-third c = omega (arith, c.min-2.ensures, over c.args.sum c.args.power 2 4 (omega arith))
