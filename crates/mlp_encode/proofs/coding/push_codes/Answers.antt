use Rattle.mlp_encode.proofs.coding.push_codes.Goals as goal

pub returns-then-book-eq1 : goal.returns-then-book-eq1
returns-then-book-eq1 c = rw c.if-book-eq1.true c.push_residuals.ensures

pub returns-then-book-eq2 : goal.returns-then-book-eq2
returns-then-book-eq2 c = rw c.if-book-eq2.true c.push_residuals-then-book-eq2.ensures

pub returns-then-book-eq3 : goal.returns-then-book-eq3
returns-then-book-eq3 c = rw c.if-book-eq3.true c.push_residuals-then-book-eq3.ensures
