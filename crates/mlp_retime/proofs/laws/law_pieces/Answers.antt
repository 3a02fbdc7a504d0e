use Rattle.mlp_retime.proofs.Pieces.{stream_retimed, some_retimed}
use Rattle.mlp_retime.proofs.laws.law_pieces.Goals as goal

pub returns-clause-some : goal.returns-clause-some
returns-clause-some c = some_retimed

pub returns-clause-stream : goal.returns-clause-stream
returns-clause-stream c = stream_retimed
