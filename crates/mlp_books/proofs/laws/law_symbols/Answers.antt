use Rattle.mlp_books.proofs.SymbolLaws.{symbol_is1, symbol_is2, symbol_is3, symbol_in_is}
use Rattle.mlp_books.proofs.laws.law_symbols.Goals as goal

pub returns : goal.returns
returns c = record { one = symbol_is1; two = symbol_is2; three = symbol_is3; by_number = symbol_in_is }
