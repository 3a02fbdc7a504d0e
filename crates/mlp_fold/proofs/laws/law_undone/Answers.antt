use Rattle.mlp_fold.proofs.Undone.{to_coded, to_bits}
use Rattle.mlp_fold.proofs.laws.law_undone.Goals as goal

pub returns-clause-values : goal.returns-clause-values
returns-clause-values c = λ mix depth channels k m e x more h. to_coded mix depth channels k x more m e h

pub returns-clause-bits : goal.returns-clause-bits
returns-clause-bits c = λ mix depth channels k m e x more h. to_bits mix depth channels k x more m e h
