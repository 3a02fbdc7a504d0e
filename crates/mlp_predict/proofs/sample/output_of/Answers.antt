use Rattle.std.proofs.Common.{◌+ℤ◌, FitsSigned, w32, w64, arith}
use Rattle.std.proofs.lemmas.Int.{ints, to_z-of_z}
use Rattle.mlp_predict.proofs.sample.output_of.Goals as goal

pub returns : goal.returns
returns c =
    let q : FitsSigned w64 c.args.residual = omega (arith, ints) in
    let s : FitsSigned w64 (c.args.prediction +ℤ c.args.residual) = omega (arith, ints) in
    let d : FitsSigned w64 c.clear.result = record { sfits = c.clear.type_inv } in
    let e : FitsSigned w32 c.wrap.result = record { sfits = c.wrap.type_inv } in
    cc (
      to_z-of_z w32 c.args.residual c.ranges.residual,
      to_z-of_z w64 c.args.residual q,
      to_z-of_z w64 c.args.prediction c.ranges.prediction,
      to_z-of_z w64 (c.args.prediction +ℤ c.args.residual) s,
      to_z-of_z w64 c.clear.result d,
      to_z-of_z w32 c.wrap.result e,
      c.clear.ensures,
      c.wrap.ensures,
      c.from.ensures,
    )
