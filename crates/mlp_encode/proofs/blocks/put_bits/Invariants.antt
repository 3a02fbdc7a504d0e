use Rattle.std.proofs.Common.{◌≡◌, ◌++◌, take, drop}
use Rattle.mlp_encode.specs.Pushed.{with_bits}
use Rattle.mlp_encode.proofs.blocks.put_bits.Given as goal

abbrev pub invariant-loop-i : goal.invariant-loop-i
invariant-loop-i l = take l.i l.codes ++ with_bits (drop l.i l.frames) (drop l.i l.codes) ≡ with_bits l.frames l.initial.codes
