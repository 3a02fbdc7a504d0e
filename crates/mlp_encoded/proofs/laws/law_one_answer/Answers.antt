use Rattle.mlp_encoded.proofs.OneAnswer.{one_raw, one_wave}
use Rattle.mlp_encoded.proofs.laws.law_one_answer.Goals as goal

pub returns : goal.returns
returns c = record { raw = one_raw; wave = one_wave }
