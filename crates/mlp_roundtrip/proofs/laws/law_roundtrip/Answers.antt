use Rattle.mlp_roundtrip.proofs.Running.{raw_kept, wave_kept}
use Rattle.mlp_roundtrip.proofs.laws.law_roundtrip.Goals as goal

pub returns-clause-raw : goal.returns-clause-raw
returns-clause-raw c = raw_kept

pub returns-clause-wave : goal.returns-clause-wave
returns-clause-wave c = wave_kept
