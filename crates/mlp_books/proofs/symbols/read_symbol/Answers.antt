use Rattle.std.proofs.Common.{◌%◌, ◌≤◌, length, refl, arith}
use Rattle.mlp_bits.specs.Cursor.{left}
use Rattle.mlp_books.proofs.BookLaws.{book_is}
use Rattle.mlp_books.proofs.SymbolLaws.{reads_none, reads_symbol, reads_cut}
use Rattle.mlp_books.proofs.symbols.read_symbol.Goals as goal

pub returns-then-meaning-clause-read : goal.returns-then-meaning-clause-read
returns-then-meaning-clause-read g c =
    let m-is = rw c.peek.ensures.value at c.meaning-meaning.ensures in
    let few = c.left-left.ensures.value in (
      reads_none (book_is g.met.B.Codebook.passes) c.args.r.now c.meaning-meaning.result m-is c.if-meaning.true c.no_code.result
          (λ lt. c.no_code.ensures.short (omega (arith, few, lt))) (λ le. c.no_code.ensures.none (omega (arith, few, le))),
      refl,
    )

pub returns-then-width-left-clause-read : goal.returns-then-width-left-clause-read
returns-then-width-left-clause-read g c =
    let m-is = rw c.peek.ensures.value at c.meaning-meaning.ensures in
    (reads_cut (book_is g.met.B.Codebook.passes) c.args.r.now c.meaning-meaning.result m-is c.if-meaning.false (omega (arith, c.left-left.ensures.value, c.from-width.ensures, c.if-width-left.true)), refl)

pub returns-clause-read : goal.returns-clause-read
returns-clause-read g c =
    let m = c.meaning-meaning.result in
    let m-is = rw c.peek.ensures.value at c.meaning-meaning.ensures in
    let room : m % 256 ≤ length (left c.args.r.now) = omega (arith, c.left-left.ensures.value, c.from-width.ensures, c.if-width-left.false) in
    let read = reads_symbol (book_is g.met.B.Codebook.passes) c.args.r.now m m-is c.if-meaning.false room in
    rw (c.skip.ensures, c.from.ensures, c.from-width.ensures) (read.0, refl, omega arith)

pub returns-clause-bound : goal.returns-clause-bound
returns-clause-bound g c =
    let m = c.meaning-meaning.result in
    let m-is = rw c.peek.ensures.value at c.meaning-meaning.ensures in
    let room : m % 256 ≤ length (left c.args.r.now) = omega (arith, c.left-left.ensures.value, c.from-width.ensures, c.if-width-left.false) in
    let read = reads_symbol (book_is g.met.B.Codebook.passes) c.args.r.now m m-is c.if-meaning.false room in
    omega (arith, read.1, g.met.B.Codebook.counted, c.from.ensures)
