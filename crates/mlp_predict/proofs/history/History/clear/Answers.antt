use Rattle.std.proofs.Common.{◌∙◌, ap, take, pos, arith}
use Rattle.std.proofs.lemmas.List.{take-replicate}
use Rattle.mlp_predict.proofs.LineLaws.{reverse-zeros}
use Rattle.mlp_predict.proofs.history.History.clear.Goals as goal

pub returns : goal.returns
returns g c = c.replace_all.ensures ∙ ap (take g.row.N) (reverse-zeros g.row.N) ∙ take-replicate g.row.N g.row.N (pos 0) (omega arith)
