use Rattle.std.proofs.Common.{arith}
use Rattle.mlp_residual.proofs.Counting.{length_is, most_length}
use Rattle.mlp_residual.proofs.count.length_of.Goals as goal

pub returns-clause-value : goal.returns-clause-value
returns-clause-value c = omega (arith, length_is c.args.book c.args.b c.args.code, c.from.ensures, c.from-2.ensures, c.symbol_length.ensures)

pub returns-clause-most : goal.returns-clause-most
returns-clause-most c = omega (arith, most_length c.args.book c.args.code.symbol c.requires.symbol, c.from.ensures, c.from-2.ensures, c.symbol_length.ensures)
