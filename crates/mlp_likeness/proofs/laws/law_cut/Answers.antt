use Rattle.mlp_likeness.proofs.CutLaw.{plays_alike}
use Rattle.mlp_likeness.proofs.Outers.{cut_comes_out}
use Rattle.mlp_likeness.proofs.laws.law_cut.Goals as goal

pub returns-clause-alike : goal.returns-clause-alike
returns-clause-alike c = plays_alike

pub returns-clause-written : goal.returns-clause-written
returns-clause-written c = cut_comes_out
