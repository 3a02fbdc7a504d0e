use Rattle.mlp_unit.proofs.RoundTrip.{read_back}
use Rattle.mlp_unit.proofs.laws.law_written.Goals as goal

pub returns : goal.returns
returns c = λ first u a. read_back first u a.fits a.meets
