use Rattle.mlp_extracted.proofs.ExLaw.{kept_stream, plays_same, was_there}
use Rattle.mlp_extracted.proofs.Timing.{stays_timed}
use Rattle.mlp_extracted.proofs.laws.law_ex.Goals as goal

pub returns-clause-stream : goal.returns-clause-stream
returns-clause-stream c = kept_stream

pub returns-clause-same : goal.returns-clause-same
returns-clause-same c j k bytes us vs le s t = plays_same k bytes us s j le vs t

pub returns-clause-only : goal.returns-clause-only
returns-clause-only c j k bytes us ws le s t = was_there k bytes us s j le ws t

pub returns-clause-timed : goal.returns-clause-timed
returns-clause-timed c = stays_timed
