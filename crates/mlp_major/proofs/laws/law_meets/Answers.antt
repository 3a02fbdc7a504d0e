use Rattle.mlp_major.proofs.SyncWriting.{fits_any}
use Rattle.mlp_major.proofs.SyncRules.{sync_rules, usable_of}
use Rattle.mlp_major.proofs.laws.law_meets.Goals as goal

pub returns-clause-meets : goal.returns-clause-meets
returns-clause-meets c = sync_rules

pub returns-clause-usable : goal.returns-clause-usable
returns-clause-usable c = usable_of

pub returns-clause-fits : goal.returns-clause-fits
returns-clause-fits c = fits_any
