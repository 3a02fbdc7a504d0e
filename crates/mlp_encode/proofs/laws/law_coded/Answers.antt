use Rattle.mlp_encode.proofs.FramesCoded.{coded_by}
use Rattle.mlp_encode.proofs.laws.law_coded.Goals as goal

pub returns : goal.returns
returns c = coded_by
