use Rattle.mlp_substream.proofs.FreshLaws.{fresh_allowed, fresh_text, fresh_force}
use Rattle.mlp_substream.proofs.laws.law_fresh.Goals as goal

pub returns-clause-allowed : goal.returns-clause-allowed
returns-clause-allowed c = λ place known f g checked s major a. fresh_allowed place known f g checked s major a

pub returns-clause-spelling : goal.returns-clause-spelling
returns-clause-spelling c = λ place known f g checked s major a. fresh_text place known f g checked s major a

pub returns-clause-force : goal.returns-clause-force
returns-clause-force c = λ place known f g checked s major a. fresh_force place known f g checked s major a
