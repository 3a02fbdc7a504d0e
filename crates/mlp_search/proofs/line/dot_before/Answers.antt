use Rattle.std.proofs.Common.{◌+◌, w32, arith, ap, ◌∙◌}
use Rattle.std.proofs.lemmas.Int.{to_z-of_z}
use Rattle.mlp_arith.specs.Words.{wrap}
use Rattle.mlp_predict.proofs.LineLaws.{dot-window}
use Rattle.mlp_search.proofs.line.dot_before.Goals as goal

pub returns : goal.returns
returns g c =
    to_z-of_z w32 c.wrapped_dot.result (record { sfits = c.wrapped_dot.type_inv })
    ∙ c.wrapped_dot.ensures
    ∙ ap wrap (dot-window c.args.fir.now c.args.line.now (8 + c.args.i) g.row.M (omega arith) (omega arith) (omega arith))
