use Rattle.mlp_substream.proofs.KnownLaws.{known_text, known_fits, known_allowed}
use Rattle.mlp_substream.proofs.laws.law_known.Goals as goal

pub returns-clause-spelling : goal.returns-clause-spelling
returns-clause-spelling c = λ place known force checked s. known_text place known force checked s

pub returns-clause-fits : goal.returns-clause-fits
returns-clause-fits c = λ place known force checked s fits. known_fits place known force checked s fits

pub returns-clause-allowed : goal.returns-clause-allowed
returns-clause-allowed c = λ place known force checked s. known_allowed place known force checked s
