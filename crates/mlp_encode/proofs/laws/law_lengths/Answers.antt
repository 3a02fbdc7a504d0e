use Rattle.mlp_encode.proofs.SegmentLaws.{sent_words, sent_most}
use Rattle.mlp_encode.proofs.SyncAllowed.{passes}
use Rattle.mlp_encode.proofs.UnitLengths.{segments_few}
use Rattle.mlp_encode.proofs.laws.law_lengths.Goals as goal

pub returns-clause-words : goal.returns-clause-words
returns-clause-words c = λ p j o state pasts frames t h end. sent_words j p pasts frames t o state h end

pub returns-clause-most : goal.returns-clause-most
returns-clause-most c = λ p j o state pasts frames t h end. sent_most j p pasts frames t o state h end

pub returns-clause-unit : goal.returns-clause-unit
returns-clause-unit c = λ p h. segments_few p (passes p h)
