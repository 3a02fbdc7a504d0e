use Rattle.mlp_encode.proofs.SyncAllowed.{passes, sync_fits, keeps_first, keeps_later}
use Rattle.mlp_encode.proofs.laws.law_sync.Goals as goal

pub returns-clause-fits : goal.returns-clause-fits
returns-clause-fits c = λ p h. sync_fits p (passes p h)

pub returns-clause-first : goal.returns-clause-first
returns-clause-first c = λ p h. keeps_first p (passes p h)

pub returns-clause-later : goal.returns-clause-later
returns-clause-later c = λ p h. keeps_later p (passes p h)
