use Rattle.std.proofs.Common.{◌≡◌, take, length}
use Rattle.mlp_encode.specs.Coding.{column}
use Rattle.mlp_encode.proofs.coding.column.Given as goal

abbrev pub invariant-loop-i : goal.invariant-loop-i
invariant-loop-i l = record { so_far : take l.i l.out ≡ column l.channel (take l.i l.frames); count : length l.out ≡ length l.frames }
