use Rattle.std.proofs.Common.{◌≡◌, ◌+◌, ◌%◌, ◌^◌, drop}
use Rattle.std.specs.Prelude.{sum}
use Rattle.mlp_gen.proofs.player.add_bytes.Given as goal

abbrev pub invariant-loop-i : goal.invariant-loop-i
invariant-loop-i l = (l.total + sum (drop l.i l.bytes)) % 2 ^ 32 ≡ (l.so_far + sum l.bytes) % 2 ^ 32
