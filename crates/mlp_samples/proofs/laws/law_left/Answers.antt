use Rattle.mlp_samples.proofs.Streams.{left_is}
use Rattle.mlp_samples.proofs.laws.law_left.Goals as goal

pub returns : goal.returns
returns c = left_is
