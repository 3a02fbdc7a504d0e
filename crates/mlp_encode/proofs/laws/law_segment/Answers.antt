use Rattle.mlp_encode.proofs.SegmentLaws.{sent_allowed, sent_leaves, sent_in_force}
use Rattle.mlp_encode.proofs.laws.law_segment.Goals as goal

pub returns-clause-allowed : goal.returns-clause-allowed
returns-clause-allowed c = λ p j o state pasts frames t known h end. sent_allowed j p pasts frames t o state h end known

pub returns-clause-leaves : goal.returns-clause-leaves
returns-clause-leaves c = λ p j o state pasts frames t h end. sent_leaves j p pasts frames t o state h end

pub returns-clause-next : goal.returns-clause-next
returns-clause-next c = λ p j o state pasts frames t h. sent_in_force j p pasts frames t o state h
