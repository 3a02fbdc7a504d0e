use Rattle.mlp_contents.proofs.FormatLaws.{whole_bytes}
use Rattle.mlp_contents.proofs.laws.law_bytes.Goals as goal

pub returns : goal.returns
returns c = whole_bytes
