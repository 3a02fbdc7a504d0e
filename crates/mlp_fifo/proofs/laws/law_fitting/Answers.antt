use Rattle.mlp_fifo.proofs.FittingLaws.{fitting_timed}
use Rattle.mlp_fifo.proofs.laws.law_fitting.Goals as goal

pub returns : goal.returns
returns c = fitting_timed
