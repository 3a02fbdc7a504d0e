use Rattle.std.proofs.Common.{arith}
use Rattle.mlp_substream.proofs.BlockCounts.{segment_blocks, same_blocks}
use Rattle.mlp_substream.proofs.laws.law_blocks.Goals as goal
use Rattle.mlp_substream.specs.Blocks.{first_context}

pub returns-clause-few : goal.returns-clause-few
returns-clause-few c = λ place known force checked s ok lawful fits meets. segment_blocks place known force checked s ok lawful fits meets

pub returns-clause-bound : goal.returns-clause-bound
returns-clause-bound c = λ place known force bound text ok lawful le.
    same_blocks place known ok text bound 21 (first_context place force) 0 (omega arith) lawful (record { room = omega arith; one = omega (arith, ok.most); other = omega (arith, ok.most) })
