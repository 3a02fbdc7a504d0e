use Rattle.mlp_retimed.proofs.Stopping.{ended_well, ends_well, was_fault, stops_at_fault, was_for_room, stops_for_room, fault_or_room}
use Rattle.mlp_retimed.proofs.laws.law_ends.Goals as goal

pub returns-clause-well : goal.returns-clause-well
returns-clause-well c = λ bytes output few. (ended_well bytes output few, ends_well bytes output few)

pub returns-clause-fault : goal.returns-clause-fault
returns-clause-fault c = λ bytes fault output few. (was_fault bytes fault output few, stops_at_fault bytes fault output few)

pub returns-clause-room : goal.returns-clause-room
returns-clause-room c = λ bytes e output few. (was_for_room bytes e output few, λ s. stops_for_room bytes e output s few)

pub returns-clause-only : goal.returns-clause-only
returns-clause-only c = fault_or_room
