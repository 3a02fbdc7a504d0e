use Rattle.std.proofs.Common.{refl}
use Rattle.mlp_substream.proofs.StampedLaws.{stamped_allowed, stamped_long, force_stamped}
use Rattle.mlp_substream.proofs.laws.law_stamped.Goals as goal

pub returns-clause-allowed : goal.returns-clause-allowed
returns-clause-allowed c = λ place known force checked s t small a. stamped_allowed place known force checked s t small a

pub returns-clause-length : goal.returns-clause-length
returns-clause-length c = λ place known force checked s t small. stamped_long place known force checked s t small

pub returns-clause-force : goal.returns-clause-force
returns-clause-force c = λ place force s t. force_stamped place t force force s.blocks.items refl
