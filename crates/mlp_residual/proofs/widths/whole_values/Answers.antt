use Rattle.mlp_residual.proofs.WidthLaws.{no_whole}
use Rattle.mlp_residual.proofs.widths.whole_values.Goals as goal

pub returns-in-None-clause-some : goal.returns-in-None-clause-some
returns-in-None-clause-some c f book b n offset h = no_whole book b c.args.step n c.loop-residual.residual-index offset c.args.residuals.now c.loop-residual-test.true c.in-None.ensures.none h
