use Rattle.mlp_pcm.proofs.WrittenHeader.{written_says}
use Rattle.mlp_pcm.proofs.laws.law_written_header.Goals as goal

pub returns : goal.returns
returns c = written_says
