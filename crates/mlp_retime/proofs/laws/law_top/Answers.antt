use Rattle.mlp_retime.proofs.TopStreams.{stream_top}
use Rattle.mlp_retime.proofs.laws.law_top.Goals as goal

pub returns : goal.returns
returns c = stream_top
