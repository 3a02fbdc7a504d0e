use Rattle.mlp_unit.proofs.ParityLaws.{bytes_parity}
use Rattle.mlp_unit.proofs.laws.law_parity.Goals as goal

pub returns : goal.returns
returns c = bytes_parity
