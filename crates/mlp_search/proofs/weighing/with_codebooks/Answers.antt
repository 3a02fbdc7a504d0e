use Rattle.std.proofs.Common.{arith, sym, ◌∙◌}
use Rattle.mlp_search.proofs.KeptLaws.{books_kept}
use Rattle.mlp_search.proofs.weighing.with_codebooks.Goals as goal

pub returns-then-not-is_better : goal.returns-then-not-is_better
returns-then-not-is_better c =
    books_kept c.args.state.now c.args.step c.args.trial.now c.args.values.now c.requires.writes c.args.sides.now.zero c.args.sides.now.middle c.requires.sides.zero c.requires.sides.middle
    c.requires.sides.at_zero c.requires.sides.at_middle c.min.result
    c.args.sides.now.zero.least c.args.sides.now.middle.least c.args.best c.requires.sides.zero.least c.requires.sides.middle.least (omega (arith, c.min.ensures)) (omega (arith, c.min.ensures))
    (sym c.is_better.ensures ∙ c.if-not-is_better.true)
