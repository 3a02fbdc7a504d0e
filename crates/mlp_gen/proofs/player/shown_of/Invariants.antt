use Rattle.std.proofs.Common.{◌≡◌, map, take}
use Rattle.mlp_gen.specs.Player.{shown_by}
use Rattle.mlp_gen.proofs.player.shown_of.Given as goal

abbrev pub invariant-loop-k : goal.invariant-loop-k
invariant-loop-k l = l.shown.items ≡ map shown_by (take l.k l.players)
