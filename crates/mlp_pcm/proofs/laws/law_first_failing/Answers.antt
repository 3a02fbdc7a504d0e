use Rattle.mlp_pcm.proofs.FirstFailing.{first_failing_is}
use Rattle.mlp_pcm.proofs.laws.law_first_failing.Goals as goal

pub returns : goal.returns
returns c = first_failing_is
