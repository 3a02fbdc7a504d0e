use Rattle.mlp_decoded.proofs.DecodedLaw.{writes_all, writes, writes_before}
use Rattle.mlp_decoded.proofs.laws.law_decoded.Goals as goal

pub returns-clause-all : goal.returns-clause-all
returns-clause-all c = writes_all

pub returns-clause-clear : goal.returns-clause-clear
returns-clause-clear c = writes

pub returns-clause-low : goal.returns-clause-low
returns-clause-low c = writes_before
