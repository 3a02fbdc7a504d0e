use Rattle.std.proofs.Common.{w32, w64, arith, ◌∙◌}
use Rattle.std.proofs.lemmas.Int.{ints, to_z-of_z}
use Rattle.mlp_fold.proofs.sums.part8.Goals as goal

whole : goal.returns-clause-value
whole c =
    to_z-of_z w64 c.dot.result (record { sfits = c.dot.type_inv }) ∙ omega (arith, ints, c.dot.ensures.sum, to_z-of_z w32 c.args.centre c.ranges.centre, to_z-of_z w32 c.args.sum c.ranges.sum)

pub returns-clause-value : goal.returns-clause-value
returns-clause-value c = whole c

pub returns-clause-low : goal.returns-clause-low
returns-clause-low c = rw (whole c) (omega (arith, ints, c.requires.centre.low, c.requires.centre.high, c.requires.low, c.requires.high))

pub returns-clause-high : goal.returns-clause-high
returns-clause-high c = rw (whole c) (omega (arith, ints, c.requires.centre.low, c.requires.centre.high, c.requires.low, c.requires.high))
