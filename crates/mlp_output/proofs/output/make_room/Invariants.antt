use Rattle.std.proofs.Common.{◌≡◌, length}
use Rattle.mlp_output.proofs.output.make_room.Given as goal

abbrev pub invariant-loop : goal.invariant-loop
invariant-loop l = length l.out.items ≡ l.counter
