use Rattle.mlp_retimed.proofs.Law.{plays_retimed}
use Rattle.mlp_retimed.proofs.Fitting.{retimed_fit}
use Rattle.mlp_retimed.proofs.KeptTiming.{retimed_timed}
use Rattle.mlp_retimed.proofs.laws.law_retime.Goals as goal

pub returns-clause-plays : goal.returns-clause-plays
returns-clause-plays c = plays_retimed

pub returns-clause-fit : goal.returns-clause-fit
returns-clause-fit c = retimed_fit

pub returns-clause-timed : goal.returns-clause-timed
returns-clause-timed c = retimed_timed
