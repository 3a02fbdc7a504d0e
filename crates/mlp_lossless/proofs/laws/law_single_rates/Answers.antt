use Rattle.mlp_lossless.proofs.Rooms.{whole_has_room, begun_has_room}
use Rattle.mlp_lossless.proofs.laws.law_single_rates.Goals as goal

pub returns-clause-whole : goal.returns-clause-whole
returns-clause-whole c = whole_has_room

pub returns-clause-begun : goal.returns-clause-begun
returns-clause-begun c = begun_has_room
