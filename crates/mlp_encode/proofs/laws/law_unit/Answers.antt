use Rattle.mlp_encode.proofs.SyncAllowed.{passes}
use Rattle.mlp_encode.proofs.UnitAllowed.{writable, follows_none, follows_first}
use Rattle.mlp_encode.proofs.laws.law_unit.Goals as goal

pub returns-clause-writable : goal.returns-clause-writable
returns-clause-writable c = λ p sync segments h count words few. writable p sync segments (passes p h) count words few

pub returns-clause-first : goal.returns-clause-first
returns-clause-first c = λ p segments h count. follows_none p segments (passes p h) count

pub returns-clause-later : goal.returns-clause-later
returns-clause-later c = λ p sync segments h count. follows_first p sync segments (passes p h) count
