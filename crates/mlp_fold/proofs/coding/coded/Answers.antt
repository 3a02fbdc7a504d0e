use Rattle.mlp_fold.proofs.Bounds.{coded26}
use Rattle.mlp_fold.proofs.coding.coded.Goals as goal

pub returns-clause-wide : goal.returns-clause-wide
returns-clause-wide c = rw c.coded_frame.ensures (coded26 c.args.mix c.args.depth c.args.channels c.args.frame.now c.requires.profile c.requires.samples)
