use Rattle.std.proofs.Common.{get_or, pos, w32, arith}
use Rattle.std.proofs.lemmas.Int.{to_z-of_z}
use Rattle.mlp_fold.proofs.Samples.{sample_word, sample_fits}
use Rattle.mlp_fold.proofs.coding.fold8.Goals as goal

pub front8-requires-clause-value : goal.front8-requires-clause-value
front8-requires-clause-value c = sample_word c.args.q (get_or c.args.frame.now 0 (pos 0)) (c.requires.samples 0 (omega arith))

pub front8-requires-clause-centre : goal.front8-requires-clause-centre
front8-requires-clause-centre c = sample_word c.args.q (get_or c.args.frame.now 2 (pos 0)) (c.requires.samples 2 (omega arith))

pub front8-requires-2-clause-value : goal.front8-requires-2-clause-value
front8-requires-2-clause-value c = sample_word c.args.q (get_or c.args.frame.now 1 (pos 0)) (c.requires.samples 1 (omega arith))

pub front8-requires-2-clause-centre : goal.front8-requires-2-clause-centre
front8-requires-2-clause-centre c = sample_word c.args.q (get_or c.args.frame.now 2 (pos 0)) (c.requires.samples 2 (omega arith))

pub both-left-requires-clause-surround : goal.both-left-requires-clause-surround
both-left-requires-clause-surround c = sample_word c.args.q (get_or c.args.frame.now 4 (pos 0)) (c.requires.samples 4 (omega arith))

pub both-left-requires-clause-back : goal.both-left-requires-clause-back
both-left-requires-clause-back c = sample_word c.args.q (get_or c.args.frame.now 6 (pos 0)) (c.requires.samples 6 (omega arith))

pub both-right-requires-clause-surround : goal.both-right-requires-clause-surround
both-right-requires-clause-surround c = sample_word c.args.q (get_or c.args.frame.now 5 (pos 0)) (c.requires.samples 5 (omega arith))

pub both-right-requires-clause-back : goal.both-right-requires-clause-back
both-right-requires-clause-back c = sample_word c.args.q (get_or c.args.frame.now 7 (pos 0)) (c.requires.samples 7 (omega arith))

pub returns : goal.returns
returns c =
    cc (
      to_z-of_z w32 (get_or c.args.frame.now 0 (pos 0)) (sample_fits c.args.q (get_or c.args.frame.now 0 (pos 0)) (c.requires.samples 0 (omega arith))),
      to_z-of_z w32 (get_or c.args.frame.now 1 (pos 0)) (sample_fits c.args.q (get_or c.args.frame.now 1 (pos 0)) (c.requires.samples 1 (omega arith))),
      to_z-of_z w32 (get_or c.args.frame.now 2 (pos 0)) (sample_fits c.args.q (get_or c.args.frame.now 2 (pos 0)) (c.requires.samples 2 (omega arith))),
      to_z-of_z w32 (get_or c.args.frame.now 3 (pos 0)) (sample_fits c.args.q (get_or c.args.frame.now 3 (pos 0)) (c.requires.samples 3 (omega arith))),
      to_z-of_z w32 (get_or c.args.frame.now 4 (pos 0)) (sample_fits c.args.q (get_or c.args.frame.now 4 (pos 0)) (c.requires.samples 4 (omega arith))),
      to_z-of_z w32 (get_or c.args.frame.now 5 (pos 0)) (sample_fits c.args.q (get_or c.args.frame.now 5 (pos 0)) (c.requires.samples 5 (omega arith))),
      to_z-of_z w32 (get_or c.args.frame.now 6 (pos 0)) (sample_fits c.args.q (get_or c.args.frame.now 6 (pos 0)) (c.requires.samples 6 (omega arith))),
      to_z-of_z w32 (get_or c.args.frame.now 7 (pos 0)) (sample_fits c.args.q (get_or c.args.frame.now 7 (pos 0)) (c.requires.samples 7 (omega arith))),
      to_z-of_z w32 c.front8.result (record { sfits = c.front8.type_inv }),
      c.front8.ensures,
      to_z-of_z w32 c.front8-2.result (record { sfits = c.front8-2.type_inv }),
      c.front8-2.ensures,
      to_z-of_z w32 c.both-left.result (record { sfits = c.both-left.type_inv }),
      c.both-left.ensures.value,
      to_z-of_z w32 c.both-right.result (record { sfits = c.both-right.type_inv }),
      c.both-right.ensures.value,
    )
