use Rattle.std.proofs.Common.{◌+◌, ◌+ℤ◌, w64, arith, pos, ◌≡◌}
use Rattle.std.proofs.lemmas.Int.{ints, to_z-of_z}
use Rattle.mlp_predict.proofs.LineLaws.{dot-window}
use Rattle.mlp_predict.proofs.alone.predict_alone.Goals as goal

pub returns-clause-value : goal.returns-clause-value
returns-clause-value g c =
    let n = 16 + c.args.i in
    let a = dot-window c.args.fir.now c.args.outputs.now n g.row.M (omega arith) (omega arith) (omega arith) in
    let s = c.dot.ensures.sum in
    let whole : c.dot.result ≡ c.dot.result +ℤ pos 0 = omega (arith, ints) in
    cc (
      a,
      s,
      whole,
      c.floor_by.ensures,
      to_z-of_z w64 c.floor_by.result (record { sfits = c.floor_by.type_inv }),
      to_z-of_z w64 c.dot.result (record { sfits = c.dot.type_inv }),
    )
