use Rattle.std.proofs.Common.{[], ◌∷◌, ◌++◌, true, arith}
use Rattle.mlp_bits.specs.Bits.{bit}
use Rattle.mlp_layout.specs.Layout.{number_of, ruled, tested, part, made}
use Rattle.mlp_layout.specs.Combined.{signed_of, group}
use Rattle.mlp_layout.proofs.WritingLaws.{then_writes, stops_writing}
use Rattle.mlp_params.specs.Filters.{filter}
use Rattle.mlp_params.specs.Parameters.{channel, filters_tested}
use Rattle.mlp_layout.proofs.WritingGroups.{fields, fields_only}
use Rattle.mlp_params.proofs.write_channels.write_channel.Goals as goal

pub write_fir-requires : goal.write_fir-requires
write_fir-requires c = rw c.has_bit.ensures c.requires.fir

pub write_iir-requires : goal.write_iir-requires
write_iir-requires c = rw c.has_bit-2.ensures c.requires.iir

pub write_offset-requires : goal.write_offset-requires
write_offset-requires c = rw c.has_bit-3.ensures c.requires.offset

pub put_all-requires : goal.put_all-requires
put_all-requires c = rw (c.from-book.ensures, c.from-low.ensures) ((c.requires.book, omega arith), ((c.requires.low, omega arith), tt))

pub returns-in_err-write_fir : goal.returns-in_err-write_fir
unfolding channel part filters_tested tested ruled number_of made
returns-in_err-write_fir c = λ s.
    let g = c.args.given.now in
    let flags = c.args.flags in
    let a = rw c.has_bit.ensures at c.in_err-write_fir.ensures in
    stops_writing _ ((group (bit flags 2) (filter 4 true)).spelling g.iir ++ ((group (bit flags 1) (signed_of 15)).spelling g.offset ++ fields ((g.book, 2) ∷ (g.low, 5) ∷ []) [])) c.from_residual.result c.from_residual.ensures.1 a

pub returns-in_err-write_iir : goal.returns-in_err-write_iir
unfolding channel part filters_tested tested ruled number_of made
returns-in_err-write_iir c = λ s.
    let g = c.args.given.now in
    let flags = c.args.flags in
    let a = rw c.has_bit.ensures at c.in_ok-write_fir.ensures in
    let b = rw c.has_bit-2.ensures at c.in_err-write_iir.ensures in
    then_writes a (stops_writing _ ((group (bit flags 1) (signed_of 15)).spelling g.offset ++ fields ((g.book, 2) ∷ (g.low, 5) ∷ []) []) c.from_residual-in_err-write_iir.result c.from_residual-in_err-write_iir.ensures.1 b)

pub returns-in_err-write_offset : goal.returns-in_err-write_offset
unfolding channel part filters_tested tested ruled number_of made
returns-in_err-write_offset c = λ s.
    let g = c.args.given.now in
    let a = rw c.has_bit.ensures at c.in_ok-write_fir.ensures in
    let b = rw c.has_bit-2.ensures at c.in_ok-write_iir.ensures in
    let d = rw c.has_bit-3.ensures at c.in_err-write_offset.ensures in
    then_writes a (then_writes b (stops_writing _ (fields ((g.book, 2) ∷ (g.low, 5) ∷ []) []) c.from_residual-in_err-write_offset.result c.from_residual-in_err-write_offset.ensures.1 d))

pub returns : goal.returns
unfolding channel part filters_tested tested ruled number_of made
returns c = λ s.
    let g = c.args.given.now in
    let a = rw c.has_bit.ensures at c.in_ok-write_fir.ensures in
    let b = rw c.has_bit-2.ensures at c.in_ok-write_iir.ensures in
    let d = rw c.has_bit-3.ensures at c.in_ok-write_offset.ensures in
    let e = rw (c.from-book.ensures, c.from-low.ensures) at c.put_all.ensures in
    then_writes a (then_writes b (then_writes d (fields_only ((g.book, 2) ∷ (g.low, 5) ∷ []) e)))
