use Rattle.std.proofs.Common.{◌≡◌, ◌<◌, ◌≤◌, ℕ, length}
use Rattle.mlp_gen.specs.Player.{player_at, Took}
use Rattle.mlp_gen.proofs.player.take_unit.Given as goal

abbrev pub invariant-loop-k : goal.invariant-loop-k
invariant-loop-k l = record {
  took : (j : ℕ) → j < l.k → Took l.unit (player_at l.fn.players j) (player_at l.players j);
  kept : (j : ℕ) → l.k ≤ j → player_at l.players j ≡ player_at l.fn.players j;
  count : length l.players ≡ length l.fn.players;
}
