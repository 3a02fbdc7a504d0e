use Rattle.mlp_wave.proofs.FileLaw.{saves_stream, saves_none}
use Rattle.mlp_wave.proofs.laws.law_file.Goals as goal

pub returns-clause-file : goal.returns-clause-file
returns-clause-file c = saves_stream

pub returns-clause-none : goal.returns-clause-none
returns-clause-none c = saves_none
