use Rattle.mlp_fifo.proofs.ShorterLemmas.{shorter_schedule, shorter_timed}
use Rattle.mlp_fifo.proofs.laws.law_shorter.Goals as goal

pub returns-clause-schedule : goal.returns-clause-schedule
returns-clause-schedule c = shorter_schedule

pub returns-clause-timed : goal.returns-clause-timed
returns-clause-timed c = shorter_timed
