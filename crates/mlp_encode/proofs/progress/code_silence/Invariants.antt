use Rattle.std.proofs.Common.{◌≡◌, take, replicate, length, pos}
use Rattle.mlp_encode.specs.Unit.{coded}
use Rattle.mlp_encode.proofs.progress.code_silence.Given as goal

abbrev pub invariant-loop-i : goal.invariant-loop-i
invariant-loop-i l = record {
  so_far : take l.i l.coding ≡ coded l.profile (replicate l.i (replicate 8 (pos 0)));
  count : length l.coding ≡ length l.initial.coding;
}
