use Rattle.std.proofs.lemmas.Int.{int_wrap_fits, int_wrap-mul_left}
use Rattle.std.specs.Int.{w32}
use Rattle.mlp_arith.proofs.Residues.{wrap_is, wrap_unique, wrap-add}
use Rattle.mlp_arith.proofs.laws.law_wrap.Goals as goal

pub returns : goal.returns
returns c = record { is = wrap_is; only = wrap_unique; sum = wrap-add; multiple = int_wrap-mul_left w32; fitting = int_wrap_fits w32 }
