use Rattle.std.proofs.Common.{◌≡◌, arith}
use Rattle.mlp_layout.specs.Layout.{number_of, made}
use Rattle.mlp_books.specs.Books.{symbol_in, symbol_of}
use Rattle.mlp_books.specs.BookFacts.{counted1, counted2, counted3}
use Rattle.mlp_books.proofs.symbols.put_code_in.Goals as goal

pub put_joined-requires-clause-symbol : goal.put_joined-requires-clause-symbol
unfolding symbol_in symbol_of
put_joined-requires-clause-symbol c =
    let fits = rw c.in-1.is at c.requires.symbol in
    omega (arith, fits, counted1, c.from.ensures)

pub put_joined-requires-in-2-clause-symbol : goal.put_joined-requires-in-2-clause-symbol
unfolding symbol_in symbol_of
put_joined-requires-in-2-clause-symbol c =
    let fits = rw c.in-2.is at c.requires.symbol in
    omega (arith, fits, counted2, c.from-in-2.ensures)

pub put_joined-requires-in_default-clause-symbol : goal.put_joined-requires-in_default-clause-symbol
unfolding symbol_in symbol_of
put_joined-requires-in_default-clause-symbol c =
    let e : c.args.book ≡ 3 = omega (arith, c.in_default, c.requires.book) in
    let fits = rw e at c.requires.symbol in
    omega (arith, fits, counted3, c.from-in_default.ensures)

pub returns-in-0 : goal.returns-in-0
unfolding symbol_in made number_of
returns-in-0 c = rw c.in-0.is c.put_number.ensures

pub returns-in-1 : goal.returns-in-1
unfolding symbol_in symbol_of
returns-in-1 c = rw (c.in-1.is, ← c.from.ensures) c.put_joined.ensures

pub returns-in-2 : goal.returns-in-2
unfolding symbol_in symbol_of
returns-in-2 c = rw (c.in-2.is, ← c.from-in-2.ensures) c.put_joined-in-2.ensures

pub returns-in_default : goal.returns-in_default
unfolding symbol_in symbol_of
returns-in_default c =
    let e : c.args.book ≡ 3 = omega (arith, c.in_default, c.requires.book) in
    rw (e, ← c.from-in_default.ensures) c.put_joined-in_default.ensures
