use Rattle.mlp_search.proofs.RecursiveLaws.{steps_shifted}
use Rattle.mlp_search.proofs.recursive.steps_of.Goals as goal

pub returns : goal.returns
returns c = steps_shifted c.args.step c.args.rise c.requires.step c.ranges.rise c.requires.few
