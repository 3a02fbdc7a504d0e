use Rattle.std.proofs.Common.{◌+◌, ◌+ℤ◌, w64, arith, FitsSigned}
use Rattle.std.proofs.lemmas.Int.{ints, to_z-of_z}
use Rattle.mlp_predict.proofs.LineLaws.{dot-window}
use Rattle.mlp_predict.proofs.lines.predict_at.Goals as goal

pub returns-clause-value : goal.returns-clause-value
returns-clause-value g c =
    let n = 16 + c.args.i in
    let a = dot-window c.args.fir.now c.args.outputs.now n g.row.M (omega arith) (omega arith) (omega arith) in
    let b = dot-window c.args.iir.now c.args.differences.now n g.row.K (omega arith) (omega arith) (omega arith) in
    let s = c.dot.ensures.sum in
    let t = c.dot-2.ensures.sum in
    let fits : FitsSigned w64 (c.dot.result +ℤ c.dot-2.result) = omega (arith, ints, c.dot.ensures.low, c.dot.ensures.high, c.dot-2.ensures.low, c.dot-2.ensures.high) in
    cc (
      a,
      b,
      s,
      t,
      c.floor_by.ensures,
      to_z-of_z w64 c.floor_by.result (record { sfits = c.floor_by.type_inv }),
      to_z-of_z w64 c.dot.result (record { sfits = c.dot.type_inv }),
      to_z-of_z w64 c.dot-2.result
          (record { sfits = c.dot-2.type_inv }),
      to_z-of_z w64 (c.dot.result +ℤ c.dot-2.result) fits,
    )
