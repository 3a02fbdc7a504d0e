use Rattle.std.proofs.Common.{get_or, pos, arith}
use Rattle.mlp_fold.proofs.Samples.{sample_word}
use Rattle.mlp_fold.proofs.coding.fold6.Goals as goal

pub front6-requires-clause-value : goal.front6-requires-clause-value
front6-requires-clause-value c = sample_word c.args.q (get_or c.args.frame.now 0 (pos 0)) (c.requires.samples 0 (omega arith))

pub front6-requires-clause-centre : goal.front6-requires-clause-centre
front6-requires-clause-centre c = sample_word c.args.q (get_or c.args.frame.now 2 (pos 0)) (c.requires.samples 2 (omega arith))

pub front6-requires-clause-surround : goal.front6-requires-clause-surround
front6-requires-clause-surround c = sample_word c.args.q (get_or c.args.frame.now 4 (pos 0)) (c.requires.samples 4 (omega arith))

pub front6-requires-2-clause-value : goal.front6-requires-2-clause-value
front6-requires-2-clause-value c = sample_word c.args.q (get_or c.args.frame.now 1 (pos 0)) (c.requires.samples 1 (omega arith))

pub front6-requires-2-clause-centre : goal.front6-requires-2-clause-centre
front6-requires-2-clause-centre c = sample_word c.args.q (get_or c.args.frame.now 2 (pos 0)) (c.requires.samples 2 (omega arith))

pub front6-requires-2-clause-surround : goal.front6-requires-2-clause-surround
front6-requires-2-clause-surround c = sample_word c.args.q (get_or c.args.frame.now 5 (pos 0)) (c.requires.samples 5 (omega arith))
