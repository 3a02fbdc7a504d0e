use Rattle.mlp_fifo.proofs.LawLemmas.{exists, only, prefix}
use Rattle.mlp_fifo.proofs.laws.law_earliest.Goals as goal

pub returns-clause-exists : goal.returns-clause-exists
returns-clause-exists c = exists

pub returns-clause-only : goal.returns-clause-only
returns-clause-only c = only

pub returns-clause-prefix : goal.returns-clause-prefix
returns-clause-prefix c = prefix
