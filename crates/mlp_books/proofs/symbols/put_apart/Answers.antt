use Rattle.mlp_bits.specs.Bits.{bits}
use Rattle.mlp_layout.specs.Layout.{number_of}
use Rattle.mlp_layout.proofs.WritingLaws.{then_writes, stops_writing}
use Rattle.mlp_books.proofs.symbols.put_apart.Goals as goal

pub returns-in_err-put_symbol_in : goal.returns-in_err-put_symbol_in
returns-in_err-put_symbol_in c =
    stops_writing _ (bits c.args.width c.args.low) c.from_residual.result c.from_residual.ensures.1 c.in_err-put_symbol_in.ensures

pub returns : goal.returns
unfolding number_of
returns c = then_writes c.in_ok-put_symbol_in.ensures c.put_number.ensures
