use Rattle.std.proofs.Common.{arith, ◌∙◌}
use Rattle.mlp_fold.proofs.Samples.{later8}
use Rattle.mlp_fold.proofs.Bounds.{fold8-26}
use Rattle.mlp_fold.proofs.presenting.fold8.Goals as goal

pub stereo_pair-requires-clause-left : goal.stereo_pair-requires-clause-left
stereo_pair-requires-clause-left c = rw c.fold8.ensures (fold8-26 c.args.q c.args.frame.now c.requires.q c.requires.samples 0)

pub stereo_pair-requires-clause-right : goal.stereo_pair-requires-clause-right
stereo_pair-requires-clause-right c = rw c.fold8.ensures (fold8-26 c.args.q c.args.frame.now c.requires.q c.requires.samples 1)

pub returns : goal.returns
returns c = c.shown.ensures ∙ later8 c.args.q c.args.k c.args.frame.now (omega arith)
