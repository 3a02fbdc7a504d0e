use Rattle.std.proofs.Common.{◌≡◌, take, map, length}
use Rattle.mlp_fold.specs.declared.profile.Mix.TheVariants.{Fold}
use Rattle.mlp_fold.specs.Mix.{coded_frame}
use Rattle.mlp_fold.proofs.blocks.fold8_frames.Given as goal

abbrev pub invariant-loop-i : goal.invariant-loop-i
invariant-loop-i l = record {
  so_far : take l.i l.out ≡ map (coded_frame Fold l.q 8) (take l.i l.frames);
  count : length l.out ≡ length l.frames;
}
