use Rattle.mlp_cut.proofs.CutLaws.{is_cut}
use Rattle.mlp_cut.proofs.laws.law_pieces.Goals as goal

pub returns : goal.returns
returns c = is_cut
