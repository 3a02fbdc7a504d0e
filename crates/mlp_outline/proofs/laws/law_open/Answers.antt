use Rattle.mlp_outline.proofs.OpenLaws.{closed_decided, open_none, open_bits, open_empty, open_enough, closed_stays}
use Rattle.mlp_outline.proofs.laws.law_open.Goals as goal

pub returns-clause-closed : goal.returns-clause-closed
returns-clause-closed c = closed_decided

pub returns-clause-none : goal.returns-clause-none
returns-clause-none c = open_none

pub returns-clause-bits : goal.returns-clause-bits
returns-clause-bits c = open_bits

pub returns-clause-empty : goal.returns-clause-empty
returns-clause-empty c = open_empty

pub returns-clause-enough : goal.returns-clause-enough
returns-clause-enough c = open_enough

pub returns-clause-stays : goal.returns-clause-stays
returns-clause-stays c = closed_stays
