use Rattle.mlp_fifo.proofs.CheckedLaws.{none_timed, checked_leaves}
use Rattle.mlp_fifo.proofs.laws.law_checked.Goals as goal

pub returns-clause-none : goal.returns-clause-none
returns-clause-none c = none_timed

pub returns-clause-each : goal.returns-clause-each
returns-clause-each c left u small kind rate units h = checked_leaves kind rate units left u h small
