use Rattle.mlp_fifo.proofs.LawLemmas.{single_rates}
use Rattle.mlp_fifo.proofs.laws.law_single_rates.Goals as goal

pub returns : goal.returns
returns c = single_rates
