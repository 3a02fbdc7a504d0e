use Rattle.mlp_fold.proofs.Applied.{are_rows}
use Rattle.mlp_fold.proofs.laws.law_rows.Goals as goal

pub returns : goal.returns
returns c = are_rows
