use Rattle.mlp_fifo.proofs.PlacedLaws.{none_leaves, placed_means, all_placed, all_have_room}
use Rattle.mlp_fifo.proofs.laws.law_placed.Goals as goal

pub returns-clause-none : goal.returns-clause-none
returns-clause-none c = none_leaves

pub returns-clause-each : goal.returns-clause-each
returns-clause-each c left bytes kind rate lengths h = placed_means kind rate lengths left bytes h

pub returns-clause-all : goal.returns-clause-all
returns-clause-all c = all_placed

pub returns-clause-room : goal.returns-clause-room
returns-clause-room c = all_have_room
