use Rattle.mlp_arith.proofs.Residues.{floor_is, floor_unique, floor_over-add, floor_by-over}
use Rattle.mlp_arith.proofs.laws.law_floor.Goals as goal

pub returns : goal.returns
returns c = record { is = floor_is; only = floor_unique; add = floor_over-add; power = floor_by-over }
