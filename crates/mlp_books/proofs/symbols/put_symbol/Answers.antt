use Rattle.std.proofs.Common.{◌≡◌, ◌<◌, length, arith}
use Rattle.mlp_bits.specs.Bits.{bits}
use Rattle.mlp_bits.proofs.ReadBack.{bits-number}
use Rattle.mlp_bits.proofs.Fields.{number-below}
use Rattle.mlp_layout.specs.Layout.{number_of}
use Rattle.mlp_books.specs.Books.{code_of}
use Rattle.mlp_books.proofs.BookLaws.{book_is}
use Rattle.mlp_books.proofs.symbols.put_symbol.Goals as goal

pub put_number-requires-clause-width : goal.put_number-requires-clause-width
put_number-requires-clause-width g c =
    let s : c.args.symbol < length g.B.Codebook.codes = omega (arith, g.met.B.Codebook.counted) in
    omega (arith, (book_is g.met.B.Codebook.passes).longest c.args.symbol s)

pub put_number-requires-clause-value : goal.put_number-requires-clause-value
put_number-requires-clause-value g c = rw (c.pattern.ensures, c.width.ensures) (number-below (code_of g.B.Codebook.codes c.args.symbol))

pub returns : goal.returns
unfolding number_of
returns g c =
    let code = code_of g.B.Codebook.codes c.args.symbol in
    let text : bits c.width.result c.pattern.result ≡ code = rw (c.pattern.ensures, c.width.ensures) (bits-number code) in
    rw text at c.put_number.ensures
