use Rattle.std.proofs.Common.{arith}
use Rattle.mlp_params.proofs.RestartRanges.{ranges}
use Rattle.mlp_params.proofs.parameters.read_all.Goals as goal

pub read_groups-requires-clause-channels : goal.read_groups-requires-clause-channels
read_groups-requires-clause-channels c = let r = ranges _ _ c.requires.restart in omega (arith, r.at_most_7, c.requires.channel_count)

pub read_groups-requires-clause-least : goal.read_groups-requires-clause-least
read_groups-requires-clause-least c = let r = ranges _ _ c.requires.restart in omega (arith, r.order, c.requires.channel_count)

pub read_groups-requires-clause-greatest : goal.read_groups-requires-clause-greatest
read_groups-requires-clause-greatest c = let r = ranges _ _ c.requires.restart in r.at_most_7

pub read_groups-requires-clause-matrix : goal.read_groups-requires-clause-matrix
read_groups-requires-clause-matrix c = let r = ranges _ _ c.requires.restart in omega (arith, r.at_most_7, r.same)
