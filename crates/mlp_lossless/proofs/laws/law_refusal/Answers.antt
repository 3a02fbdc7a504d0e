use Rattle.mlp_lossless.proofs.Rooms.{whole_stops, begun_stops}
use Rattle.mlp_lossless.proofs.laws.law_refusal.Goals as goal

pub returns-clause-whole : goal.returns-clause-whole
returns-clause-whole c = whole_stops

pub returns-clause-begun : goal.returns-clause-begun
returns-clause-begun c = begun_stops
