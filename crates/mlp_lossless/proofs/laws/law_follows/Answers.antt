use Rattle.mlp_lossless.proofs.Next.{each_followed, each_added}
use Rattle.mlp_lossless.proofs.laws.law_follows.Goals as goal

pub returns-clause-followed : goal.returns-clause-followed
returns-clause-followed c = each_followed

pub returns-clause-added : goal.returns-clause-added
returns-clause-added c = each_added
