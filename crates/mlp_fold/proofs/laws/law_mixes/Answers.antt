use Rattle.mlp_fold.proofs.Mixes.{mixes}
use Rattle.mlp_fold.proofs.laws.law_mixes.Goals as goal

pub returns : goal.returns
returns c = λ mix depth channels k m n x a b more h. mixes mix depth channels k x a b more m n h
