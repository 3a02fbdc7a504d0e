use Rattle.mlp_books.specs.BookFacts.{passes1, passes2, passes3}
use Rattle.mlp_books.proofs.BookLaws.{book_is}
use Rattle.mlp_books.proofs.laws.law_books.Goals as goal

pub returns : goal.returns
returns c = record { one = book_is passes1; two = book_is passes2; three = book_is passes3 }
