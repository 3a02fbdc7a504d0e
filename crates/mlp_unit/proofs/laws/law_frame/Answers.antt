use Rattle.mlp_unit.proofs.FrameLaws.{is_frame, no_frame, frame_alone, unit_alone, frame_more, unit_more}
use Rattle.mlp_unit.proofs.laws.law_frame.Goals as goal

pub returns-clause-fails : goal.returns-clause-fails
returns-clause-fails c = no_frame

pub returns-clause-size : goal.returns-clause-size
returns-clause-size c = λ next n e. let f = is_frame next n e in (f.some, f.small, f.there)

pub returns-clause-alone : goal.returns-clause-alone
returns-clause-alone c = λ next n e. frame_alone next n (is_frame next n e)

pub returns-clause-same : goal.returns-clause-same
returns-clause-same c = λ first next n e. unit_alone next n (is_frame next n e) first

pub returns-clause-more : goal.returns-clause-more
returns-clause-more c = frame_more

pub returns-clause-enough : goal.returns-clause-enough
returns-clause-enough c = λ first next more enough. unit_more next more enough first
