use Rattle.mlp_gen.proofs.OneText.{one_text}
use Rattle.mlp_gen.proofs.laws.law_one_text.Goals as goal

pub returns : goal.returns
returns c = one_text
