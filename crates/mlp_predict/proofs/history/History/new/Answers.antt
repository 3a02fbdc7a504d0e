use Rattle.std.proofs.Common.{pos, arith}
use Rattle.std.proofs.lemmas.List.{take-replicate}
use Rattle.mlp_predict.proofs.history.History.new.Goals as goal

pub returns : goal.returns
returns g c = take-replicate g.row.N 64 (pos 0) (omega arith)
