use Rattle.mlp_walk.proofs.NextLaws.{next_settled}
use Rattle.mlp_walk.proofs.WalkLaws.{law_next, law_end}
use Rattle.mlp_contents.specs.Units.{start, whole}
use Rattle.mlp_contents.proofs.FormatLaws.{whole_is, whole_bytes}
use Rattle.mlp_present.proofs.WaitLaws.{waits_settled}
use Rattle.mlp_present.proofs.laws.law_decoder.Goals as goal

pub returns-clause-next : goal.returns-clause-next
returns-clause-next c = λ k. law_next (whole k) (whole_is k) (start k) (whole_bytes k)

pub returns-clause-last : goal.returns-clause-last
returns-clause-last c = λ k. law_end (whole k) (whole_is k) (start k)

pub returns-clause-settled : goal.returns-clause-settled
returns-clause-settled c = λ k left next more closed wanted number. next_settled (whole k) (whole_is k) wanted number left next more (waits_settled k left next more closed)
