use Rattle.mlp_fold.proofs.Undone.{top_shown}
use Rattle.mlp_fold.proofs.laws.law_top.Goals as goal

pub returns : goal.returns
returns c = λ mix depth channels k m e x. top_shown mix depth channels k x m e
