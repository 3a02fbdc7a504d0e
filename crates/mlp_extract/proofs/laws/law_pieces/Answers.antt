use Rattle.mlp_extract.proofs.ExtractLaws.{stream_extracted, ended_extracted}
use Rattle.mlp_extract.proofs.laws.law_pieces.Goals as goal

pub returns-clause-stream : goal.returns-clause-stream
returns-clause-stream c = stream_extracted

pub returns-clause-any : goal.returns-clause-any
returns-clause-any c = ended_extracted
