use Rattle.std.proofs.Common.{get_or, pos, w32, arith}
use Rattle.std.proofs.lemmas.Int.{ints, to_z-of_z}
use Rattle.mlp_fold.proofs.Samples.{sample_word, sample_fits, word26}
use Rattle.mlp_fold.proofs.presenting.six_of_eight.Goals as goal

pub both-left_sum-requires-clause-surround : goal.both-left_sum-requires-clause-surround
both-left_sum-requires-clause-surround c = sample_word c.args.q (get_or c.args.frame.now 4 (pos 0)) (c.requires.samples 4 (omega arith))

pub both-left_sum-requires-clause-back : goal.both-left_sum-requires-clause-back
both-left_sum-requires-clause-back c = sample_word c.args.q (get_or c.args.frame.now 6 (pos 0)) (c.requires.samples 6 (omega arith))

pub both-right_sum-requires-clause-surround : goal.both-right_sum-requires-clause-surround
both-right_sum-requires-clause-surround c = sample_word c.args.q (get_or c.args.frame.now 5 (pos 0)) (c.requires.samples 5 (omega arith))

pub both-right_sum-requires-clause-back : goal.both-right_sum-requires-clause-back
both-right_sum-requires-clause-back c = sample_word c.args.q (get_or c.args.frame.now 7 (pos 0)) (c.requires.samples 7 (omega arith))

pub halved-left-requires-clause-coded : goal.halved-left-requires-clause-coded
halved-left-requires-clause-coded c = word26 c.both-left_sum.result (record { low = omega (arith, ints, c.both-left_sum.ensures.low); high = omega (arith, ints, c.both-left_sum.ensures.high) })

pub halved-right-requires-clause-coded : goal.halved-right-requires-clause-coded
halved-right-requires-clause-coded c = word26 c.both-right_sum.result (record { low = omega (arith, ints, c.both-right_sum.ensures.low); high = omega (arith, ints, c.both-right_sum.ensures.high) })

pub returns : goal.returns
returns c =
    cc (
      to_z-of_z w32 (get_or c.args.frame.now 0 (pos 0)) (sample_fits c.args.q (get_or c.args.frame.now 0 (pos 0)) (c.requires.samples 0 (omega arith))),
      to_z-of_z w32 (get_or c.args.frame.now 1 (pos 0)) (sample_fits c.args.q (get_or c.args.frame.now 1 (pos 0)) (c.requires.samples 1 (omega arith))),
      to_z-of_z w32 (get_or c.args.frame.now 2 (pos 0)) (sample_fits c.args.q (get_or c.args.frame.now 2 (pos 0)) (c.requires.samples 2 (omega arith))),
      to_z-of_z w32 (get_or c.args.frame.now 3 (pos 0)) (sample_fits c.args.q (get_or c.args.frame.now 3 (pos 0)) (c.requires.samples 3 (omega arith))),
      to_z-of_z w32 (get_or c.args.frame.now 4 (pos 0)) (sample_fits c.args.q (get_or c.args.frame.now 4 (pos 0)) (c.requires.samples 4 (omega arith))),
      to_z-of_z w32 (get_or c.args.frame.now 5 (pos 0)) (sample_fits c.args.q (get_or c.args.frame.now 5 (pos 0)) (c.requires.samples 5 (omega arith))),
      to_z-of_z w32 (get_or c.args.frame.now 6 (pos 0)) (sample_fits c.args.q (get_or c.args.frame.now 6 (pos 0)) (c.requires.samples 6 (omega arith))),
      to_z-of_z w32 (get_or c.args.frame.now 7 (pos 0)) (sample_fits c.args.q (get_or c.args.frame.now 7 (pos 0)) (c.requires.samples 7 (omega arith))),
      to_z-of_z w32 c.both-left_sum.result (record { sfits = c.both-left_sum.type_inv }),
      c.both-left_sum.ensures.value,
      to_z-of_z w32 c.halved-left.result (record { sfits = c.halved-left.type_inv }),
      c.halved-left.ensures,
      to_z-of_z w32 c.both-right_sum.result (record { sfits = c.both-right_sum.type_inv }),
      c.both-right_sum.ensures.value,
      to_z-of_z w32 c.halved-right.result (record { sfits = c.halved-right.type_inv }),
      c.halved-right.ensures,
    )
