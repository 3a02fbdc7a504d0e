use Rattle.std.proofs.Common.{◌≤◌, ◌*◌, length, take}
use Rattle.mlp_bits.specs.Bits.{bits_of}
use Rattle.mlp_residual.proofs.RunLaws.{FramesRead}
use Rattle.mlp_residual.proofs.runs.frames_of_channels.Given as goal

abbrev pub invariant-loop-i : goal.invariant-loop-i
invariant-loop-i g l = record {
  from : l.place ≤ l.end;
  within : l.end ≤ 8 * length l.bytes;
  so_far : FramesRead l.coding l.i (take l.i l.out) (bits_of l.bytes) l.place l.end;
}
