use Rattle.mlp_fold.proofs.Bounds.{all_coded}
use Rattle.mlp_fold.proofs.blocks.code_frames.Goals as goal

pub returns-clause-wide : goal.returns-clause-wide
returns-clause-wide c = rw c.code_by.ensures (all_coded c.args.mix c.args.depth c.args.channels c.args.frames.now c.requires.profile c.requires.samples)
