use Rattle.mlp_substream.proofs.RoundTrip.{read_back}
use Rattle.mlp_substream.proofs.laws.law_written.Goals as goal

pub returns : goal.returns
returns c = λ place known force s fits meets. read_back place known force s.checked s fits meets
