use Rattle.std.proofs.Common.{◌≡◌, take, map, length}
use Rattle.mlp_residual.specs.Block.{residual_in}
use Rattle.mlp_residual.proofs.block.residuals.Given as goal

abbrev pub invariant-loop-i : goal.invariant-loop-i
invariant-loop-i l = record {
  so_far : take l.i l.out ≡ map (residual_in l.coding l.channel) (take l.i l.frames);
  count : length l.out ≡ length l.frames;
}
