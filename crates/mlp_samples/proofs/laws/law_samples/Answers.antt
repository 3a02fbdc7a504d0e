use Rattle.mlp_samples.proofs.Streams.{samples_are}
use Rattle.mlp_samples.proofs.laws.law_samples.Goals as goal

pub returns : goal.returns
returns c = samples_are
