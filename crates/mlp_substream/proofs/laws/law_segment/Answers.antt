use Rattle.mlp_substream.proofs.SegmentLaws.{segment_is}
use Rattle.mlp_substream.proofs.laws.law_segment.Goals as goal

pub returns : goal.returns
returns c = segment_is
