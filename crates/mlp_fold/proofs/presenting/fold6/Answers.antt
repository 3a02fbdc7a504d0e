use Rattle.std.proofs.Common.{arith, ◌∙◌}
use Rattle.mlp_fold.proofs.Samples.{later6}
use Rattle.mlp_fold.proofs.Bounds.{fold6-26}
use Rattle.mlp_fold.proofs.presenting.fold6.Goals as goal

pub stereo_pair-requires-clause-left : goal.stereo_pair-requires-clause-left
stereo_pair-requires-clause-left c = rw c.fold6.ensures (fold6-26 c.args.q c.args.frame.now c.requires.q c.requires.samples 0)

pub stereo_pair-requires-clause-right : goal.stereo_pair-requires-clause-right
stereo_pair-requires-clause-right c = rw c.fold6.ensures (fold6-26 c.args.q c.args.frame.now c.requires.q c.requires.samples 1)

pub returns : goal.returns
returns c = c.shown.ensures ∙ later6 c.args.q c.args.k c.args.frame.now (omega arith)
