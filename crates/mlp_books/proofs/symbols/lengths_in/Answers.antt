use Rattle.std.proofs.Common.{◌≡◌, arith}
use Rattle.mlp_books.proofs.TableLaws.{widths0, widths1, widths2, widths3, fits0, fits1, fits2, fits3}
use Rattle.mlp_books.proofs.symbols.lengths_in.Goals as goal

pub returns-in-0-clause-each : goal.returns-in-0-clause-each
returns-in-0-clause-each c = rw c.in-0.is widths0

pub returns-in-0-clause-fits : goal.returns-in-0-clause-fits
returns-in-0-clause-fits c = rw c.in-0.is fits0

pub returns-in-1-clause-each : goal.returns-in-1-clause-each
returns-in-1-clause-each c = rw c.in-1.is widths1

pub returns-in-1-clause-fits : goal.returns-in-1-clause-fits
returns-in-1-clause-fits c = rw c.in-1.is fits1

pub returns-in-2-clause-each : goal.returns-in-2-clause-each
returns-in-2-clause-each c = rw c.in-2.is widths2

pub returns-in-2-clause-fits : goal.returns-in-2-clause-fits
returns-in-2-clause-fits c = rw c.in-2.is fits2

pub returns-in_default-clause-each : goal.returns-in_default-clause-each
returns-in_default-clause-each c = let e : c.args.book ≡ 3 = omega (arith, c.in_default, c.requires) in rw e widths3

pub returns-in_default-clause-fits : goal.returns-in_default-clause-fits
returns-in_default-clause-fits c = let e : c.args.book ≡ 3 = omega (arith, c.in_default, c.requires) in rw e fits3
