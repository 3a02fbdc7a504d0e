use Rattle.mlp_books.proofs.TableLaws.{meanings_by_number, meanings_count}
use Rattle.mlp_books.proofs.symbols.meanings.Goals as goal

pub returns-clause-count : goal.returns-clause-count
returns-clause-count c = meanings_count

pub returns-clause-each : goal.returns-clause-each
returns-clause-each c book nine le lt = meanings_by_number book nine le lt
