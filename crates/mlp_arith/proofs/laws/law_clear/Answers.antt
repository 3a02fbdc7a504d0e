use Rattle.mlp_arith.proofs.Residues.{clear_le, lt_clear, clear-clear, clear_add, clear_back}
use Rattle.mlp_arith.proofs.laws.law_clear.Goals as goal

pub returns : goal.returns
returns c = record { low = clear_le; high = lt_clear; twice = clear-clear; add = clear_add; back = clear_back }
