use Rattle.mlp_layout.proofs.LayoutLaws.{number_of_is}
use Rattle.mlp_layout.proofs.CombinedLaws.{flag_is, signed_of_is}
use Rattle.mlp_layout.proofs.laws.law_numbers.Goals as goal

pub returns : goal.returns
returns c = record { number = number_of_is; flag = flag_is; signed = signed_of_is }
