use Rattle.std.proofs.Common.{◌≡◌, map}
use Rattle.std.specs.List.{range_with_len}
use Rattle.mlp_gen.specs.Player.{unplayed}
use Rattle.mlp_gen.proofs.player.open_players.Given as goal

abbrev pub invariant-loop-k : goal.invariant-loop-k
invariant-loop-k l = l.players.items ≡ map unplayed (range_with_len 0 l.k)
