use Rattle.std.proofs.Common.{◌≡◌, take, replicate, length, []}
use Rattle.mlp_encode.proofs.blocks.empty_frames.Given as goal

abbrev pub invariant-loop-i : goal.invariant-loop-i
invariant-loop-i l = record {
  so_far : take l.i l.frames ≡ replicate l.i (record { bypass = 0; codes = record { items = [] } });
  count : length l.frames ≡ length l.initial.frames;
}
