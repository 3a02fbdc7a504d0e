use Rattle.mlp_fifo.proofs.TimedLemmas.{times_only}
use Rattle.mlp_fifo.proofs.laws.law_one_timing.Goals as goal

pub returns : goal.returns
returns c = times_only
