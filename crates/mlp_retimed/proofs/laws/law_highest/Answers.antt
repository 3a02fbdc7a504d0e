use Rattle.mlp_retimed.proofs.TopBack.{units_highest, highest_units, fails_highest, highest_fails}
use Rattle.mlp_retimed.proofs.laws.law_highest.Goals as goal

pub returns-clause-stream : goal.returns-clause-stream
returns-clause-stream c = λ bytes us. (units_highest bytes us, highest_units bytes us)

pub returns-clause-breaks : goal.returns-clause-breaks
returns-clause-breaks c = λ bytes fault. (fails_highest bytes fault, highest_fails bytes fault)
