use Rattle.mlp_major.proofs.MajorLaws.{major_is}
use Rattle.mlp_major.proofs.laws.law_major_sync.Goals as goal

pub returns : goal.returns
returns c = major_is
