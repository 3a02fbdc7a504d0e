use Rattle.mlp_contents.proofs.FormatLaws.{one_reading}
use Rattle.mlp_contents.proofs.laws.law_one.Goals as goal

pub returns : goal.returns
returns c = one_reading
