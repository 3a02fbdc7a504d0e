use Rattle.mlp_substream.proofs.TimingLaws.{timing_allowed, timing_text, force_timing}
use Rattle.mlp_substream.proofs.laws.law_timing.Goals as goal

pub returns-clause-allowed : goal.returns-clause-allowed
returns-clause-allowed c = λ place known f g checked s same a. timing_allowed place known f g same checked s a

pub returns-clause-spelling : goal.returns-clause-spelling
returns-clause-spelling c = λ place known f g checked s same. timing_text place known f g same checked s

pub returns-clause-force : goal.returns-clause-force
returns-clause-force c = λ place f g heads same. force_timing place f g heads same
