use Rattle.std.proofs.Common.{◌<◌, length, arith}
use Rattle.mlp_bits.proofs.ReadBack.{bits-number}
use Rattle.mlp_bits.proofs.Fields.{number-below}
use Rattle.mlp_books.specs.Books.{code_of}
use Rattle.mlp_books.proofs.BookLaws.{book_is}
use Rattle.mlp_books.proofs.symbols.write_symbol.Goals as goal

pub put-requires-clause-width : goal.put-requires-clause-width
put-requires-clause-width g c =
    let s : c.args.symbol < length g.B.Codebook.codes = omega (arith, g.met.B.Codebook.counted) in
    omega (arith, (book_is g.met.B.Codebook.passes).longest c.args.symbol s)

pub put-requires-clause-value : goal.put-requires-clause-value
put-requires-clause-value g c = rw (c.pattern.ensures, c.width.ensures) (number-below (code_of g.B.Codebook.codes c.args.symbol))

pub returns-clause-ok : goal.returns-clause-ok
returns-clause-ok g c =
    let code = code_of g.B.Codebook.codes c.args.symbol in
    rw (bits-number code) at (rw (c.pattern.ensures, c.width.ensures) at c.put.ensures.ok)
