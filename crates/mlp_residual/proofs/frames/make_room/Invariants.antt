use Rattle.std.proofs.Common.{◌≡◌, length}
use Rattle.mlp_residual.proofs.frames.make_room.Given as goal

abbrev pub invariant-loop : goal.invariant-loop
invariant-loop l = length l.codes.items ≡ l.counter
