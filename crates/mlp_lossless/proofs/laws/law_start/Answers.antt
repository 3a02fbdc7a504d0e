use Rattle.mlp_lossless.proofs.Starts.{follows_start}
use Rattle.mlp_lossless.proofs.laws.law_start.Goals as goal

pub returns : goal.returns
returns c = follows_start
