use Rattle.mlp_arith.proofs.Residues.{low24_is, low24_unique, low24-wrap}
use Rattle.mlp_arith.proofs.laws.law_low24.Goals as goal

pub returns : goal.returns
returns c = record { is = low24_is; only = low24_unique; wrapped = low24-wrap }
