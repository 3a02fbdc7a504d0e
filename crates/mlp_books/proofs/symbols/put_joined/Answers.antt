use Rattle.std.proofs.Common.{◌≡◌, ◌<◌, ◌≤◌, ◌^◌, ◌++◌, length, ap, ◌∙◌, arith}
use Rattle.mlp_bits.specs.Bits.{bits}
use Rattle.mlp_bits.proofs.ReadBack.{bits-number}
use Rattle.mlp_bits.proofs.Fields.{number-below}
use Rattle.mlp_layout.specs.Layout.{number_of}
use Rattle.mlp_layout.proofs.WritingLaws.{writes_as}
use Rattle.mlp_books.specs.Books.{code_of}
use Rattle.mlp_books.proofs.BookLaws.{book_is}
use Rattle.mlp_books.proofs.Joining.{joined}
use Rattle.mlp_books.proofs.symbols.put_joined.Goals as goal

pub overflow_add-high : goal.overflow_add-high
overflow_add-high g c =
    let s : c.args.symbol < length g.B.Codebook.codes = omega (arith, g.met.B.Codebook.counted) in
    let code = code_of g.B.Codebook.codes c.args.symbol in
    let few : length code ≤ 9 = (book_is g.met.B.Codebook.passes).longest c.args.symbol s in
    let below : c.pattern.result < 2 ^ length code = rw c.pattern.ensures (number-below code) in
    let j = joined (length code) c.args.width c.pattern.result c.args.low below c.requires.low (omega (arith, few, c.requires.width)) in
    omega (arith, j.whole, j.fits)

pub overflow_add-width : goal.overflow_add-width
overflow_add-width g c =
    let s : c.args.symbol < length g.B.Codebook.codes = omega (arith, g.met.B.Codebook.counted) in
    let few = (book_is g.met.B.Codebook.passes).longest c.args.symbol s in
    omega (arith, few, c.width.ensures, c.requires.width)

pub put_number-requires-clause-width : goal.put_number-requires-clause-width
put_number-requires-clause-width g c =
    let s : c.args.symbol < length g.B.Codebook.codes = omega (arith, g.met.B.Codebook.counted) in
    let few = (book_is g.met.B.Codebook.passes).longest c.args.symbol s in
    omega (arith, few, c.width.ensures, c.requires.width)

pub put_number-requires-clause-value : goal.put_number-requires-clause-value
put_number-requires-clause-value g c =
    let s : c.args.symbol < length g.B.Codebook.codes = omega (arith, g.met.B.Codebook.counted) in
    let code = code_of g.B.Codebook.codes c.args.symbol in
    let few : length code ≤ 9 = (book_is g.met.B.Codebook.passes).longest c.args.symbol s in
    let below : c.pattern.result < 2 ^ length code = rw c.pattern.ensures (number-below code) in
    let j = joined (length code) c.args.width c.pattern.result c.args.low below c.requires.low (omega (arith, few, c.requires.width)) in
    rw (j.whole, c.width.ensures) j.below

pub returns : goal.returns
unfolding number_of
returns g c =
    let s : c.args.symbol < length g.B.Codebook.codes = omega (arith, g.met.B.Codebook.counted) in
    let code = code_of g.B.Codebook.codes c.args.symbol in
    let few : length code ≤ 9 = (book_is g.met.B.Codebook.passes).longest c.args.symbol s in
    let below : c.pattern.result < 2 ^ length code = rw c.pattern.ensures (number-below code) in
    let j = joined (length code) c.args.width c.pattern.result c.args.low below c.requires.low (omega (arith, few, c.requires.width)) in
    let front : bits (length code) c.pattern.result ≡ code = rw c.pattern.ensures (bits-number code) in
    writes_as (j.text ∙ ap (λ t. t ++ bits c.args.width c.args.low) front) (rw (j.whole, c.width.ensures) at c.put_number.ensures)
