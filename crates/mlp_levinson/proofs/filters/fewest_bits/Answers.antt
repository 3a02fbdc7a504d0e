use Rattle.std.proofs.Common.{arith}
use Rattle.std.proofs.lemmas.Grind.{common_steps}
use Rattle.mlp_levinson.proofs.Widths.{width_below}
use Rattle.mlp_levinson.proofs.filters.fewest_bits.Goals as goal

pub loop-width-preserved : goal.loop-width-preserved
loop-width-preserved c = grind (arith, common_steps, width_below c.loop-width.width c.args.numbers.now)
