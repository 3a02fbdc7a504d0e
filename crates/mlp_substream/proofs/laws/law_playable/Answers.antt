use Rattle.mlp_substream.proofs.PlayableLaws.{segment_plays}
use Rattle.mlp_substream.proofs.laws.law_playable.Goals as goal

pub returns : goal.returns
returns c = λ place known force checked s ok lawful a. segment_plays place known force checked ok lawful s a
