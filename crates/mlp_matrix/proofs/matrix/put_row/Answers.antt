use Rattle.std.proofs.Common.{ℕ, List, ℤ, pos, Option, ◌-◌, ◌++◌, length, take, replicate, ap, sym, ◌∙◌}
use Rattle.mlp_matrix.specs.Matrix.{weights_of}
use Rattle.mlp_matrix.proofs.Rows.{each_prepared}
use Rattle.mlp_matrix.proofs.matrix.put_row.Goals as goal

pub returns : goal.returns
returns g c =
    let row = c.args.row.now in
    let n : ℕ = c.args.count in
    let all : List (Option ℤ) = c.as_slice.result.now in
    let rest : ℕ = length row.coeffs.items - n in
    c.put_each.ensures
    ∙ each_prepared row c.weights-weights.result (take n all) (g.row.M - length (take n all)) rest c.from.result c.args.step c.args.index c.args.bypass.now c.args.frames.now
    c.weights-weights.ensures.value
    (c.requires.used row.frac ∙ ap (λ cs. weights_of row.frac (take n cs) ++ replicate rest (pos 0)) (sym c.as_slice.ensures.value))
    c.from.ensures
