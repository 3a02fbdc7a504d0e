use Rattle.mlp_fold.proofs.Wide.{wide}
use Rattle.mlp_fold.proofs.laws.law_wide.Goals as goal

pub returns : goal.returns
returns c = λ mix depth channels k m n x c h. wide mix depth channels k x m n h c
